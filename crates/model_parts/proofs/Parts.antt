-- The calls of a batch keep what the device of a store holds.
use Rattle.std.proofs.Common.{◌≡◌, ◌≤◌, ◌<◌, ◌⊎◌, ℕ, inl, inr, Bool, List, [], ◌∷◌, ◌++◌, length, Some, None, true, false, refl, sym, ap, subst, ◌∙◌, ⊎_elim, arith}
use Rattle.std.proofs.lemmas.Bool.{cases_lt}
use Rattle.std.specs.List.{slice_get}
use Rattle.model_base.specs.declared.shape.Shape.{Shape}
use Rattle.model_page.specs.{copy_lsn, data_device_length, slot_bytes, user_part}
use Rattle.model_page.specs.declared.content.Content.{Content}
use Rattle.model_device.specs.{after_write, after_writes, IsPutOrNot, settled, synced, written, Disk}
use Rattle.model_device.specs.declared.write.Write.{Write}
use Rattle.model_parts.specs.Batch.{Fresh, slots_write, place_writes}
use Rattle.model_parts.specs.Stored.{IsNew, IsKnown, copied, KeepsPage, ImageHolds, IsSteady, Keeps, Stored, IsUpTo, IsLater, after_batch, AreNotNewer, IsOpened, IsBefore, KeepsPages}
use Rattle.model_parts.specs.BatchFits.{IsBatch}
use Rattle.model_parts.specs.Steps.{written_all, ArePutOrNot, after_both, FailsBoth}
use Rattle.model_parts.proofs.Writes.{HasSizes, sizes-from, in-or, after-none, after-some}
use Rattle.model_parts.proofs.DataImages.{IsReady, ready-from, IsSlotsOrNot, keeps-slots, stored-from, IsCopied, copied-from, AreOnPlaces, places-on, take-on, places-pending, placed-from, new-at}
use Rattle.model_base.specs.{IsWithinLimits}
use Rattle.model_parts.proofs.Written.{HasSome, some-pending, all-synced}

settled-writes : (disk : Disk) → disk ≡ settled disk.base → disk.writes ≡ []
settled-writes disk is = ap (λ (d : Disk). d.writes) is

settled-reads : (disk : Disk) → disk ≡ settled disk.base → disk.reads ≡ disk.base
settled-reads disk is = ap (λ (d : Disk). d.reads) is

mid-is : (disk : Disk) (write : Write) → disk ≡ settled disk.base → synced (written disk write) ≡ settled (after_write disk.base write)
mid-is disk write is = ap (λ r. settled (after_write r write)) (settled-reads disk is)

slots-or : (shape : Shape) (batch : List Fresh) (old new : Disk) → old ≡ settled old.base → IsPutOrNot (slots_write shape batch) old new → IsSlotsOrNot shape batch old new
slots-or shape batch old new is calls =
    let none : (ws : List Write) → old.writes ++ ws ≡ ws = λ ws. ap (λ l. l ++ ws) (settled-writes old is) in
    ⊎_elim (λ fails. record {
      base = fails.base;
      writes = ⊎_elim (λ not. inl (not.0 ∙ settled-writes old is)) (λ done. inr (done.0 ∙ none (slots_write shape batch ∷ []))) fails.pending;
    })
    (λ pending. record {
      base = ap (λ (d : Disk). d.base) pending;
      writes = inr (ap (λ (d : Disk). d.writes) pending ∙ none (slots_write shape batch ∷ []));
    }) calls

pub put-done : (shape : Shape) (copies : ℕ → Content → Type 0) (was : ℕ → Content) (batch : List Fresh) (old new : Disk) → IsWithinLimits shape → IsBatch shape batch
    → IsReady shape copies was old.base → old ≡ settled old.base → new ≡ synced (written old (slots_write shape batch))
    → Stored shape (IsKnown copies batch) was [] false new
put-done shape copies was batch old new is batch_is ready nothing done =
    let base : List ℕ = after_write old.base (slots_write shape batch) in
    subst (λ (d : Disk). Stored shape (IsKnown copies batch) was [] false d) (sym (done ∙ mid-is old (slots_write shape batch) nothing))
    (stored-from shape (IsKnown copies batch) was (settled base) is (copied-from shape copies was batch old.base is batch_is ready).ready refl)

pub put-failed : (shape : Shape) (copies : ℕ → Content → Type 0) (was : ℕ → Content) (batch : List Fresh) (old new : Disk) → IsWithinLimits shape → IsBatch shape batch
    → IsReady shape copies was old.base → old ≡ settled old.base → IsPutOrNot (slots_write shape batch) old new → Keeps shape copies was batch new
put-failed shape copies was batch old new is batch_is ready nothing calls = keeps-slots shape copies was batch old new is batch_is ready (slots-or shape batch old new nothing calls)

pub write-done : (shape : Shape) (copies : ℕ → Content → Type 0) (was : ℕ → Content) (batch : List Fresh) (old new : Disk) → IsWithinLimits shape → IsBatch shape batch
    → IsReady shape copies was old.base → old ≡ settled old.base → new ≡ after_both (slots_write shape batch) (place_writes shape batch) old
    → Stored shape (IsKnown copies batch) (after_batch batch was) [] false new
write-done shape copies was batch old new is batch_is ready nothing done =
    let base : List ℕ = after_write old.base (slots_write shape batch) in
    let last : List ℕ = after_writes base (place_writes shape batch) in
    let end : new ≡ settled last =
    done ∙ ap (λ (d : Disk). synced (written_all d (place_writes shape batch))) (mid-is old (slots_write shape batch) nothing) ∙ all-synced (settled base) (place_writes shape batch) in
    subst (λ (d : Disk). Stored shape (IsKnown copies batch) (after_batch batch was) [] false d) (sym end)
    (stored-from shape (IsKnown copies batch) (after_batch batch was) (settled last) is (placed-from shape copies was batch base is batch_is (copied-from shape copies was batch old.base is batch_is ready)) refl)

pub write-failed : (shape : Shape) (copies : ℕ → Content → Type 0) (was : ℕ → Content) (batch : List Fresh) (old new : Disk) → IsWithinLimits shape → IsBatch shape batch → AreNotNewer copies batch
    → IsReady shape copies was old.base → old ≡ settled old.base → FailsBoth (slots_write shape batch) (place_writes shape batch) old new → Keeps shape copies was batch new
write-failed shape copies was batch old new is batch_is older ready nothing calls =
    ⊎_elim (λ first. put-failed shape copies was batch old new is batch_is ready nothing first)
    (λ second.
    let base : List ℕ = after_write old.base (slots_write shape batch) in
    let held : IsCopied shape copies was batch base = copied-from shape copies was batch old.base is batch_is ready in
    let some : HasSome (settled base) (place_writes shape batch) new =
    some-pending (settled base) new (place_writes shape batch) refl (subst (λ (d : Disk). ArePutOrNot (place_writes shape batch) d new) (mid-is old (slots_write shape batch) nothing) second) in
    let held_new : IsCopied shape copies was batch new.base = subst (λ (b : List ℕ). IsCopied shape copies was batch b) (sym some.base) held in
    let sizes : HasSizes shape (length new.base) = sizes-from shape (length new.base) is held_new.ready.long in
    let on : AreOnPlaces shape batch (length new.base) new.writes =
    subst (λ (ws : List Write). AreOnPlaces shape batch (length new.base) ws) (sym some.pending)
    (take-on shape batch (length new.base) some.count (place_writes shape batch) (places-on shape batch (length new.base) sizes batch_is)) in
    record { long = held_new.ready.long; each = places-pending shape copies was batch new is batch_is older held_new on }) calls

-- what holds after the batch was written holds of the pages before it with the batch beside them
after-holds : (shape : Shape) (copies : ℕ → Content → Type 0) (was : ℕ → Content) (batch : List Fresh) (image : List ℕ) → IsBatch shape batch
    → ImageHolds shape (IsKnown copies batch) (after_batch batch was) [] image → ImageHolds shape copies was batch image
after-holds shape copies was batch image batch_is holds = record {
  pages = λ p below.
      let page : KeepsPage shape (after_batch batch was) [] image p = holds.pages p below in
      record {
        content = page.content;
        kept = page.kept;
        which = ⊎_elim (λ is. ⊎_elim (λ has. inr (new-at batch p has.i has.new page.content has.at has.page (is ∙ after-some batch was p has.i has.new batch_is.different has.at has.page)))
            (λ none. inl (is ∙ after-none batch was p none)) (in-or batch p)) (λ new. absurd (no-new p page.content new)) page.which;
      };
  known = λ p slot lsn page below passes. ⊎_elim (λ is. is) (λ new. absurd (no-new p (copied shape image slot lsn) new)) (holds.known p slot lsn page below passes);
}
  where
    no-new : (p : ℕ) (content : Content) → IsNew [] p content → ⊥
    no-new p content is = let none : None ≡ Some (let x : Fresh = record { page = p; content = content } in x) = is.at in absurd cc

pub after-keeps : (shape : Shape) (copies : ℕ → Content → Type 0) (was : ℕ → Content) (batch : List Fresh) (failed : Bool) (disk : Disk) → IsBatch shape batch
    → Stored shape (IsKnown copies batch) (after_batch batch was) [] failed disk → Keeps shape copies was batch disk
after-keeps shape copies was batch failed disk batch_is stored = record {
  long = stored.keeps.long;
  each = λ image fair. after-holds shape copies was batch image batch_is (stored.keeps.each image fair);
}

pub holds-weaker : (shape : Shape) (copies more : ℕ → Content → Type 0) (was : ℕ → Content) (batch : List Fresh) (image : List ℕ) → ((p : ℕ) (content : Content) → copies p content → more p content)
    → ImageHolds shape copies was batch image → ImageHolds shape more was batch image
holds-weaker shape copies more was batch image step holds = record {
  pages = holds.pages;
  known = λ p slot lsn page below passes. ⊎_elim (λ old. inl (step p (copied shape image slot lsn) old)) (λ new. inr new) (holds.known p slot lsn page below passes);
}

pub stored-weaker : (shape : Shape) (copies more : ℕ → Content → Type 0) (was : ℕ → Content) (batch : List Fresh) (failed : Bool) (disk : Disk)
    → ((p : ℕ) (content : Content) → copies p content → more p content) → Stored shape copies was batch failed disk → Stored shape more was batch failed disk
stored-weaker shape copies more was batch failed disk step stored = record {
  keeps = record { long = stored.keeps.long; each = λ image fair. holds-weaker shape copies more was batch image step (stored.keeps.each image fair) };
  steady = stored.steady;
}

pub tied-older : (was : ℕ → Content) (batch : List Fresh) → IsLater was batch → AreNotNewer (IsUpTo was) batch
tied-older was batch later = record {
  no_newer = λ p old new known is.
      let no_older : (was p).lsn ≤ new.lsn = later.no_older p new is in
      ⊎_elim (λ less. omega arith) (λ same. let lsn : old.lsn ≡ (was p).lsn = ap (λ (x : Content). x.lsn) same in omega arith) known;
  same = λ p old new known is equal.
      let no_older : (was p).lsn ≤ new.lsn = later.no_older p new is in
      ⊎_elim (λ less. absurd (omega arith)) (λ same. ap (λ (x : Content). x.user) (same ∙ later.same p new is (sym (ap (λ (x : Content). x.lsn) same) ∙ equal))) known;
}

new-is : (batch : List Fresh) (p : ℕ) (content : Content) (was : ℕ → Content) → ((i j : ℕ) (new other : Fresh) → slice_get batch i ≡ Some new → slice_get batch j ≡ Some other → new.page ≡ other.page → i ≡ j)
    → IsNew batch p content → after_batch batch was p ≡ content
new-is batch p content was different is = after-some batch was p is.i (record { page = p; content = content }) different is.at refl

pub tied-after : (shape : Shape) (was : ℕ → Content) (batch : List Fresh) → IsBatch shape batch → IsLater was batch → (p : ℕ) (content : Content) → IsKnown (IsUpTo was) batch p content → IsUpTo (after_batch batch was) p content
tied-after shape was batch batch_is later p content known =
    ⊎_elim (λ has.
    let is : IsNew batch p has.new.content = new-at batch p has.i has.new has.new.content has.at has.page refl in
    let after : after_batch batch was p ≡ has.new.content = new-is batch p has.new.content was batch_is.different is in
    let no_older : (was p).lsn ≤ has.new.content.lsn = later.no_older p has.new.content is in
    subst (λ (x : Content). (content.lsn < x.lsn) ⊎ (content ≡ x)) (sym after)
    (⊎_elim (λ old. ⊎_elim (λ less. inl (omega arith))
    (λ same.
    let lsn : content.lsn ≡ (was p).lsn = ap (λ (x : Content). x.lsn) same in
    ⊎_elim (λ less. inl (omega arith)) (λ not_less. inr (same ∙ later.same p has.new.content is (omega arith))) (cases_lt (was p).lsn has.new.content.lsn)) old)
    (λ new. inr (sym (new-is batch p content was batch_is.different new) ∙ after)) known))
    (λ none.
    subst (λ (x : Content). (content.lsn < x.lsn) ⊎ (content ≡ x)) (sym (after-none batch was p none))
    (⊎_elim (λ old. old) (λ new. absurd (none new.i (record { page = p; content = content }) new.at refl)) known)) (in-or batch p)

pub tied-write : (shape : Shape) (top was : ℕ → Content) (batch : List Fresh) (old new : Disk) → IsWithinLimits shape → IsBatch shape batch → IsLater top batch
    → Stored shape (IsUpTo top) was [] false old → new ≡ after_both (slots_write shape batch) (place_writes shape batch) old → Stored shape (IsUpTo (after_batch batch top)) (after_batch batch was) [] false new
tied-write shape top was batch old new is batch_is later stored done =
    stored-weaker shape (IsKnown (IsUpTo top) batch) (IsUpTo (after_batch batch top)) (after_batch batch was) [] false new (tied-after shape top batch batch_is later)
    (write-done shape (IsUpTo top) was batch old new is batch_is (ready-from shape (IsUpTo top) was old stored) (stored.steady refl).nothing_pending done)

pub tied-keeps : (shape : Shape) (top was : ℕ → Content) (batch : List Fresh) (old new : Disk) → IsWithinLimits shape → IsBatch shape batch
    → Stored shape (IsUpTo top) was [] false old → new ≡ after_both (slots_write shape batch) (place_writes shape batch) old → Keeps shape (IsUpTo top) was batch new
tied-keeps shape top was batch old new is batch_is stored done =
    after-keeps shape (IsUpTo top) was batch false new batch_is
    (write-done shape (IsUpTo top) was batch old new is batch_is (ready-from shape (IsUpTo top) was old stored) (stored.steady refl).nothing_pending done)

pub tied-failed : (shape : Shape) (top was : ℕ → Content) (batch : List Fresh) (old new : Disk) → IsWithinLimits shape → IsBatch shape batch → IsLater top batch
    → Stored shape (IsUpTo top) was [] false old → FailsBoth (slots_write shape batch) (place_writes shape batch) old new → Keeps shape (IsUpTo top) was batch new
tied-failed shape top was batch old new is batch_is later stored calls =
    write-failed shape (IsUpTo top) was batch old new is batch_is (tied-older top batch later) (ready-from shape (IsUpTo top) was old stored) (stored.steady refl).nothing_pending calls

pub opened-stored : (shape : Shape) (top was : ℕ → Content) (disk : Disk) → IsWithinLimits shape → IsOpened shape top was disk → Stored shape (IsUpTo top) was [] false disk
opened-stored shape top was disk is opened =
    stored-from shape (IsUpTo top) was disk is (record { long = opened.long; places = opened.places; known = opened.known }) opened.nothing_pending

-- the copies that are on the device
pub record IsOn (shape : Shape) (base : List ℕ) (p : ℕ) (content : Content) : Type 0 where
  pub page : p < shape.pages
  pub slot : ℕ
  pub below : slot < shape.slots
  pub passes : copy_lsn shape base p slot ≡ Some content.lsn
  pub user : content.user ≡ user_part (slot_bytes shape slot base)

before-ready : (shape : Shape) (was : ℕ → Content) (batch : List Fresh) (disk : Disk) → data_device_length shape ≤ length disk.base → IsBefore shape was batch disk
    → IsReady shape (IsOn shape disk.base) was disk.base
before-ready shape was batch disk long before = record {
  long = long;
  places = before.steady.places;
  known = λ p slot lsn page below passes. record { page = page; slot = slot; below = below; passes = passes; user = refl };
}

before-older : (shape : Shape) (was : ℕ → Content) (batch : List Fresh) (disk : Disk) → IsBefore shape was batch disk → AreNotNewer (IsOn shape disk.base) batch
before-older shape was batch disk before = record {
  no_newer = λ p old new on is. before.copies.no_newer p on.slot old.lsn new on.page on.below on.passes is;
  same = λ p old new on is equal. on.user ∙ before.copies.same p on.slot old.lsn new on.page on.below on.passes is equal;
}

before-write : (shape : Shape) (was : ℕ → Content) (batch : List Fresh) (old new : Disk) → IsWithinLimits shape → IsBatch shape batch → data_device_length shape ≤ length old.base → IsBefore shape was batch old
    → new ≡ after_both (slots_write shape batch) (place_writes shape batch) old → Stored shape (IsKnown (IsOn shape old.base) batch) (after_batch batch was) [] false new
before-write shape was batch old new is batch_is long before done =
    write-done shape (IsOn shape old.base) was batch old new is batch_is (before-ready shape was batch old long before) before.steady.nothing_pending done

pub before-done : (shape : Shape) (was : ℕ → Content) (batch : List Fresh) (old new : Disk) → IsWithinLimits shape → IsBatch shape batch → data_device_length shape ≤ length old.base → IsBefore shape was batch old
    → new ≡ after_both (slots_write shape batch) (place_writes shape batch) old → IsSteady shape (after_batch batch was) new
before-done shape was batch old new is batch_is long before done = (before-write shape was batch old new is batch_is long before done).steady refl

pub before-keeps : (shape : Shape) (was : ℕ → Content) (batch : List Fresh) (old new : Disk) → IsWithinLimits shape → IsBatch shape batch → data_device_length shape ≤ length old.base → IsBefore shape was batch old
    → new ≡ after_both (slots_write shape batch) (place_writes shape batch) old → KeepsPages shape was batch new
before-keeps shape was batch old new is batch_is long before done image p fair below =
    let keeps : Keeps shape (IsOn shape old.base) was batch new = after-keeps shape (IsOn shape old.base) was batch false new batch_is (before-write shape was batch old new is batch_is long before done) in
    (keeps.each image fair).pages p below

pub before-failed : (shape : Shape) (was : ℕ → Content) (batch : List Fresh) (old new : Disk) → IsWithinLimits shape → IsBatch shape batch → data_device_length shape ≤ length old.base → IsBefore shape was batch old
    → FailsBoth (slots_write shape batch) (place_writes shape batch) old new → KeepsPages shape was batch new
before-failed shape was batch old new is batch_is long before calls image p fair below =
    let keeps : Keeps shape (IsOn shape old.base) was batch new =
    write-failed shape (IsOn shape old.base) was batch old new is batch_is (before-older shape was batch old before) (before-ready shape was batch old long before) before.steady.nothing_pending calls in
    (keeps.each image fair).pages p below

pub tied-put : (shape : Shape) (top was : ℕ → Content) (batch : List Fresh) (old new : Disk) → IsWithinLimits shape → IsBatch shape batch
    → Stored shape (IsUpTo top) was [] false old → new ≡ synced (written old (slots_write shape batch)) → Stored shape (IsUpTo top) was batch false new
tied-put shape top was batch old new is batch_is stored done =
    let after : Stored shape (IsKnown (IsUpTo top) batch) was [] false new =
    put-done shape (IsUpTo top) was batch old new is batch_is (ready-from shape (IsUpTo top) was old stored) (stored.steady refl).nothing_pending done in
    record {
      keeps = record {
        long = after.keeps.long;
        each = λ image fair. let holds : ImageHolds shape (IsKnown (IsUpTo top) batch) was [] image = after.keeps.each image fair in record {
          pages = λ p below. let page : KeepsPage shape was [] image p = holds.pages p below in record { content = page.content; kept = page.kept; which = ⊎_elim (λ old_one. inl old_one) (λ new_one. absurd (nothing-new p page.content new_one)) page.which };
          known = λ p slot lsn page below passes. ⊎_elim (λ known. known) (λ new_one. absurd (nothing-new p (copied shape image slot lsn) new_one)) (holds.known p slot lsn page below passes);
        };
      };
      steady = after.steady;
    }
  where
    nothing-new : (p : ℕ) (content : Content) → IsNew [] p content → ⊥
    nothing-new p content is = let none : None ≡ Some (let x : Fresh = record { page = p; content = content } in x) = is.at in absurd cc

pub tied-put_failed : (shape : Shape) (top was : ℕ → Content) (batch : List Fresh) (old new : Disk) → IsWithinLimits shape → IsBatch shape batch
    → Stored shape (IsUpTo top) was [] false old → IsPutOrNot (slots_write shape batch) old new → Stored shape (IsUpTo top) was batch true new
tied-put_failed shape top was batch old new is batch_is stored calls = record {
  keeps = put-failed shape (IsUpTo top) was batch old new is batch_is (ready-from shape (IsUpTo top) was old stored) (stored.steady refl).nothing_pending calls;
  steady = λ live. absurd cc;
}
