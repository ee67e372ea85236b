-- What each fair image holds at each point of the write of a batch.
use Rattle.std.proofs.Common.{◌≡◌, ◌≤◌, ◌<◌, ◌+◌, ◌*◌, ◌⊎◌, ℕ, zero, suc, inl, inr, List, [], ◌∷◌, length, take, Some, None, false, refl, sym, ap, subst, ◌∙◌, ⊎_elim, arith}
use Rattle.std.proofs.lemmas.Bool.{cases_lt}
use Rattle.std.proofs.lemmas.Option.{slice_get_within}
use Rattle.std.specs.List.{slice_get}
use Rattle.model_base.specs.declared.shape.Shape.{Shape}
use Rattle.model_page.specs.{copy_lsn, data_device_length, HasBestCopy, IsInPlace, place_bytes, slot_bytes, stretch_at}
use Rattle.model_page.specs.declared.content.Content.{Content}
use Rattle.model_device.specs.{after_write, after_writes, settled, Disk}
use Rattle.model_device.specs.declared.write.Write.{Write}
use Rattle.model_store.specs.{IsFair}
use Rattle.model_parts.specs.Batch.{Fresh, new_text, slots_write, place_writes}
use Rattle.model_parts.specs.Stored.{IsNew, IsKnown, copied, KeepsPage, ImageHolds, Keeps, Stored, after_batch, AreNotNewer}
use Rattle.model_parts.specs.BatchFits.{IsFreshPage, IsBatch}
use Rattle.model_parts.proofs.Stretches.{AreApart, ArePut, fair-apart, fair-put, apart-put, take-apart, take-put, pieces-apart, pieces-has, length-after, stretch-piece}
use Rattle.model_parts.proofs.Writes.{HasSizes, sizes-from, slots-apart, slots-put, places-apart, places-put, places-has, in-or, after-none, after-some}
use Rattle.model_parts.proofs.Kept.{same-place, same-copy, same-copied, broken-place, broken-copy, place-new, copy-new, IsCopyOf, copy-is}
use Rattle.model_page.proofs.BestCopy.{best-copy}
use Rattle.model_page.proofs.Kept.{same_content}
use Rattle.model_store.proofs.Fairness.{base-fair}
use Rattle.model_base.specs.{IsWithinLimits}

-- the bytes of a device on which nothing is pending
pub record IsReady (shape : Shape) (copies : ℕ → Content → Type 0) (was : ℕ → Content) (base : List ℕ) : Type 0 where
  pub long : data_device_length shape ≤ length base
  pub places : (p : ℕ) → p < shape.pages → IsInPlace shape base p (was p)
  pub known : (p slot lsn : ℕ) → p < shape.pages → slot < shape.slots → copy_lsn shape base p slot ≡ Some lsn → copies p (copied shape base slot lsn)

no-new : (p : ℕ) (content : Content) → IsNew [] p content → ⊥
no-new p content is = let none : None ≡ Some (record { page = p; content = content }) = is.at in absurd cc

pub ready-from : (shape : Shape) (copies : ℕ → Content → Type 0) (was : ℕ → Content) (disk : Disk) → Stored shape copies was [] false disk → IsReady shape copies was disk.base
ready-from shape copies was disk stored =
    let holds : ImageHolds shape copies was [] disk.base = stored.keeps.each disk.base (base-fair shape disk) in
    record {
      long = stored.keeps.long;
      places = (stored.steady refl).places;
      known = λ p slot lsn page below passes. ⊎_elim (λ old. old) (λ new. absurd (no-new p (copied shape disk.base slot lsn) new)) (holds.known p slot lsn page below passes);
    }

-- the writes leave the places alone, and the slots too or make each the text of its page
record AreOnSlots (shape : Shape) (batch : List Fresh) (long : ℕ) (writes : List Write) : Type 0 where
  places : (p : ℕ) → p < shape.pages → AreApart shape.page_size ((shape.slots + p) * shape.page_size) long writes
  slots : (n : ℕ) → length batch ≤ n → AreApart shape.page_size (n * shape.page_size) long writes
  texts : (n : ℕ) (new : Fresh) → slice_get batch n ≡ Some new → ArePut shape.page_size (n * shape.page_size) long (new_text shape new) writes

record HasFresh (batch : List Fresh) (n : ℕ) : Type 0 where
  new : Fresh
  at : slice_get batch n ≡ Some new

fresh-at : (batch : List Fresh) (n : ℕ) → n < length batch → HasFresh batch n
fresh-at [] n below = absurd (omega arith)
fresh-at (first ∷ batch) zero below = record { new = first; at = refl }
fresh-at (first ∷ batch) (suc n) below = let rest : HasFresh batch n = fresh-at batch n (omega arith) in record { new = rest.new; at = rest.at }

pub new-at : (batch : List Fresh) (p i : ℕ) (new : Fresh) (content : Content) → slice_get batch i ≡ Some new → new.page ≡ p → content ≡ new.content → IsNew batch p content
new-at batch p i new content at page is = record {
  i = i;
  at = at ∙ ap (λ (x : Fresh). Some x)
      (ap (λ (q : ℕ). (let y : Fresh = record { page = q; content = new.content } in y)) page ∙ ap (λ (c : Content). (let y : Fresh = record { page = p; content = c } in y)) (sym is));
}

slots-pending : (shape : Shape) (copies : ℕ → Content → Type 0) (was : ℕ → Content) (batch : List Fresh) (disk : Disk) → IsWithinLimits shape → IsBatch shape batch
    → IsReady shape copies was disk.base → AreOnSlots shape batch (length disk.base) disk.writes → (image : List ℕ) → IsFair shape disk image → ImageHolds shape copies was batch image
slots-pending shape copies was batch disk is batch_is ready writes image fair = record {
  pages = λ p below. record {
    content = was p;
    kept = inl (same-place shape disk.base image p (was p) (fair-apart shape (shape.slots + p) disk image is.page_size (writes.places p below) fair.possible) (ready.places p below));
    which = inl refl;
  };
  known = λ p slot lsn page below passes.
      let old : slot_bytes shape slot image ≡ slot_bytes shape slot disk.base → IsKnown copies batch p (copied shape image slot lsn) = λ same.
      inl (subst (λ (c : Content). copies p c) (sym (same-copied shape disk.base image slot lsn same))
      (ready.known p slot lsn page below (sym (same-copy shape disk.base image p slot same) ∙ passes))) in
      ⊎_elim (λ inside.
      let has : HasFresh batch slot = fresh-at batch slot inside in
      ⊎_elim (λ broken. let none : None ≡ Some lsn = sym (broken-copy shape image p slot broken) ∙ passes in absurd cc)
      (λ whole. ⊎_elim old (λ text.
      let copy : IsCopyOf shape image p slot lsn has.new = copy-is shape image has.new p slot lsn is (batch_is.each slot has.new has.at) text passes in
      inr (new-at batch p slot has.new (copied shape image slot lsn) has.at copy.page copy.content)) whole)
      (fair-put shape slot disk image (new_text shape has.new) (omega arith) (writes.texts slot has.new has.at) fair))
      (λ beyond. old (fair-apart shape slot disk image is.page_size (writes.slots slot beyond) fair.possible)) (cases_lt slot (length batch));
}

none-written : (shape : Shape) (batch : List Fresh) (long : ℕ) → AreOnSlots shape batch long []
none-written shape batch long = record { places = λ p below. tt; slots = λ n beyond. tt; texts = λ n new at. tt }

slots-written : (shape : Shape) (batch : List Fresh) (long : ℕ) → HasSizes shape long → IsBatch shape batch → AreOnSlots shape batch long (slots_write shape batch ∷ [])
slots-written shape batch long sizes is = record {
  places = λ p below. (slots-apart shape batch (shape.slots + p) long sizes is (omega (arith, is.few)), tt);
  slots = λ n beyond. (slots-apart shape batch n long sizes is beyond, tt);
  texts = λ n new at. (inr (slots-put shape batch n long new sizes is at), tt);
}

-- a device is as it was, or the write of the slots is pending
pub record IsSlotsOrNot (shape : Shape) (batch : List Fresh) (old new : Disk) : Type 0 where
  pub base : new.base ≡ old.base
  pub writes : (new.writes ≡ []) ⊎ (new.writes ≡ slots_write shape batch ∷ [])

pub keeps-slots : (shape : Shape) (copies : ℕ → Content → Type 0) (was : ℕ → Content) (batch : List Fresh) (old new : Disk) → IsWithinLimits shape → IsBatch shape batch
    → IsReady shape copies was old.base → IsSlotsOrNot shape batch old new → Keeps shape copies was batch new
keeps-slots shape copies was batch old new is batch_is ready_old pending =
    let ready : IsReady shape copies was new.base = subst (λ (b : List ℕ). IsReady shape copies was b) (sym pending.base) ready_old in
    let sizes : HasSizes shape (length new.base) = sizes-from shape (length new.base) is ready.long in
    let writes : AreOnSlots shape batch (length new.base) new.writes =
    ⊎_elim (λ none. subst (λ (ws : List Write). AreOnSlots shape batch (length new.base) ws) (sym none) (none-written shape batch (length new.base)))
    (λ one. subst (λ (ws : List Write). AreOnSlots shape batch (length new.base) ws) (sym one) (slots-written shape batch (length new.base) sizes batch_is)) pending.writes in
    record { long = ready.long; each = slots-pending shape copies was batch new is batch_is ready writes }

-- what nothing pending gives
pub stored-from : (shape : Shape) (copies : ℕ → Content → Type 0) (was : ℕ → Content) (disk : Disk) → IsWithinLimits shape → IsReady shape copies was disk.base → disk ≡ settled disk.base
    → Stored shape copies was [] false disk
stored-from shape copies was disk is ready nothing = record {
  keeps = record {
    long = ready.long;
    each = slots-pending shape copies was [] disk is (record {
      few = omega arith;
      each = λ i new at. absurd (no-new new.page new.content (record { i = i; at = at }));
      different = λ i j new other at. absurd (no-new new.page new.content (record { i = i; at = at }));
    }) ready
        (subst (λ (ws : List Write). AreOnSlots shape [] (length disk.base) ws) (sym (ap (λ (d : Disk). d.writes) nothing)) (none-written shape [] (length disk.base)));
  };
  steady = λ live. record { nothing_pending = nothing; places = ready.places };
}

-- the bytes of a device whose slots hold the batch, and whose places are as they were
pub record IsCopied (shape : Shape) (copies : ℕ → Content → Type 0) (was : ℕ → Content) (batch : List Fresh) (base : List ℕ) : Type 0 where
  pub ready : IsReady shape (IsKnown copies batch) was base
  pub texts : (i : ℕ) (new : Fresh) → slice_get batch i ≡ Some new → slot_bytes shape i base ≡ new_text shape new

pub copied-from : (shape : Shape) (copies : ℕ → Content → Type 0) (was : ℕ → Content) (batch : List Fresh) (base : List ℕ) → IsWithinLimits shape → IsBatch shape batch
    → IsReady shape copies was base → IsCopied shape copies was batch (after_write base (slots_write shape batch))
copied-from shape copies was batch base is batch_is ready =
    let sizes : HasSizes shape (length base) = sizes-from shape (length base) is ready.long in
    let writes : AreOnSlots shape batch (length base) (slots_write shape batch ∷ []) = slots-written shape batch (length base) sizes batch_is in
    let new_base : List ℕ = after_write base (slots_write shape batch) in
    let same : (n : ℕ) → AreApart shape.page_size (n * shape.page_size) (length base) (slots_write shape batch ∷ []) → stretch_at shape n new_base ≡ stretch_at shape n base = λ n apart.
    stretch-piece shape n new_base ∙ pieces-apart shape.page_size (n * shape.page_size) base (slots_write shape batch ∷ []) (length base) refl apart ∙ sym (stretch-piece shape n base) in
    let text : (i : ℕ) (new : Fresh) → slice_get batch i ≡ Some new → slot_bytes shape i new_base ≡ new_text shape new = λ i new at.
    stretch-piece shape i new_base ∙ pieces-has shape.page_size (i * shape.page_size) base (new_text shape new) (slots_write shape batch ∷ []) (length base) refl (writes.texts i new at)
    (inl (inl (slots-put shape batch i (length base) new sizes batch_is at))) in
    let long : length new_base ≡ length base = length-after shape.page_size (length batch * shape.page_size) base [] (slots_write shape batch ∷ []) (length base) refl (apart-put shape.page_size (length batch * shape.page_size) (length base) [] (slots_write shape batch ∷ []) (writes.slots (length batch) (omega arith))) in
    record {
      ready = record {
        long = omega (arith, ready.long, long);
        places = λ p below. same-place shape base new_base p (was p) (same (shape.slots + p) (writes.places p below)) (ready.places p below);
        known = λ p slot lsn page below passes. ⊎_elim (λ inside.
            let has : HasFresh batch slot = fresh-at batch slot inside in
            let copy : IsCopyOf shape new_base p slot lsn has.new = copy-is shape new_base has.new p slot lsn is (batch_is.each slot has.new has.at) (text slot has.new has.at) passes in
            inr (new-at batch p slot has.new (copied shape new_base slot lsn) has.at copy.page copy.content))
            (λ beyond.
            let here : slot_bytes shape slot new_base ≡ slot_bytes shape slot base = same slot (writes.slots slot beyond) in
            inl (subst (λ (c : Content). copies p c) (sym (same-copied shape base new_base slot lsn here)) (ready.known p slot lsn page below (sym (same-copy shape base new_base p slot here) ∙ passes))))
            (cases_lt slot (length batch));
      };
      texts = text;
    }

-- the writes leave the slots alone, and each place too or make it the text of its page
pub record AreOnPlaces (shape : Shape) (batch : List Fresh) (long : ℕ) (writes : List Write) : Type 0 where
  pub slots : (n : ℕ) → n < shape.slots → AreApart shape.page_size (n * shape.page_size) long writes
  pub others : (p : ℕ) → ((i : ℕ) (new : Fresh) → slice_get batch i ≡ Some new → new.page ≡ p → ⊥) → AreApart shape.page_size ((shape.slots + p) * shape.page_size) long writes
  pub texts : (i : ℕ) (new : Fresh) → slice_get batch i ≡ Some new → ArePut shape.page_size ((shape.slots + new.page) * shape.page_size) long (new_text shape new) writes

same-texts : (shape : Shape) (batch : List Fresh) (i j : ℕ) (new other : Fresh) → IsBatch shape batch → slice_get batch i ≡ Some new → slice_get batch j ≡ Some other → other.page ≡ new.page → new_text shape other ≡ new_text shape new
same-texts shape batch i j new other is at at_other page =
    let here : j ≡ i = is.different j i other new at_other at page in
    let both : Some other ≡ Some new = sym at_other ∙ ap (slice_get batch) here ∙ at in
    let same : other ≡ new = cc in ap (new_text shape) same

pub places-on : (shape : Shape) (batch : List Fresh) (long : ℕ) → HasSizes shape long → IsBatch shape batch → AreOnPlaces shape batch long (place_writes shape batch)
places-on shape batch long sizes is = record {
  slots = λ n below. places-apart shape batch n long sizes is.each (λ i new at same. absurd (omega arith));
  others = λ p none. places-apart shape batch (shape.slots + p) long sizes is.each (λ i new at same. none i new at (omega arith));
  texts = λ i new at. places-put shape batch new.page long (new_text shape new) sizes is.each (λ j other at_other page. same-texts shape batch i j new other is at at_other page);
}

pub take-on : (shape : Shape) (batch : List Fresh) (long count : ℕ) (writes : List Write) → AreOnPlaces shape batch long writes → AreOnPlaces shape batch long (take count writes)
take-on shape batch long count writes are = record {
  slots = λ n below. take-apart shape.page_size (n * shape.page_size) long count writes (are.slots n below);
  others = λ p none. take-apart shape.page_size ((shape.slots + p) * shape.page_size) long count writes (are.others p none);
  texts = λ i new at. take-put shape.page_size ((shape.slots + new.page) * shape.page_size) long count (new_text shape new) writes (are.texts i new at);
}

pub places-pending : (shape : Shape) (copies : ℕ → Content → Type 0) (was : ℕ → Content) (batch : List Fresh) (disk : Disk) → IsWithinLimits shape → IsBatch shape batch → AreNotNewer copies batch
    → IsCopied shape copies was batch disk.base → AreOnPlaces shape batch (length disk.base) disk.writes → (image : List ℕ) → IsFair shape disk image → ImageHolds shape copies was batch image
places-pending shape copies was batch disk is batch_is older held writes image fair =
    let slot : (n : ℕ) → n < shape.slots → slot_bytes shape n image ≡ slot_bytes shape n disk.base = λ n below. fair-apart shape n disk image is.page_size (writes.slots n below) fair.possible in
    let known : (p slot lsn : ℕ) → p < shape.pages → slot < shape.slots → copy_lsn shape image p slot ≡ Some lsn → IsKnown copies batch p (copied shape image slot lsn) = λ p n lsn page below passes.
    subst (λ (c : Content). IsKnown copies batch p c) (sym (same-copied shape disk.base image n lsn (slot n below)))
    (held.ready.known p n lsn page below (sym (same-copy shape disk.base image p n (slot n below)) ∙ passes)) in
    record {
      pages = λ p below.
          let as_it_was : place_bytes shape p image ≡ place_bytes shape p disk.base → KeepsPage shape was batch image p = λ same. record {
            content = was p;
            kept = inl (same-place shape disk.base image p (was p) same (held.ready.places p below));
            which = inl refl;
          } in
          ⊎_elim (λ has. subst (λ (q : ℕ). KeepsPage shape was batch image q) has.page
          (⊎_elim (λ broken.
          let new : Fresh = has.new in
          let fresh : IsFreshPage shape new = batch_is.each has.i new has.at in
          let few : has.i < shape.slots = omega (arith, batch_is.few, slice_get_within batch has.i new has.at) in
          let own : copy_lsn shape image new.page has.i ≡ Some new.content.lsn =
          copy-new shape image new has.i is fresh (slot has.i few ∙ held.texts has.i new has.at) in
          let best : HasBestCopy shape image new.page = best-copy shape image new.page has.i new.content.lsn few own in
          let counts : Content = copied shape image best.slot best.lsn in
          let greatest : new.content.lsn ≤ best.lsn = best.best.greatest has.i new.content.lsn few own in
          record {
            content = counts;
            kept = inr (record { broken = broken-place shape image new.page broken; slot = best.slot; best = best.best; user = refl });
            which = inr (⊎_elim (λ old.
                let is_new : IsNew batch new.page new.content = new-at batch new.page has.i new new.content has.at refl refl in
                let least : best.lsn ≤ new.content.lsn = older.no_newer new.page counts new.content old is_new in
                let equal : best.lsn ≡ new.content.lsn = omega arith in
                new-at batch new.page has.i new counts has.at refl (same_content counts new.content equal (older.same new.page counts new.content old is_new equal)))
                (λ known_new. known_new) (known new.page best.slot best.lsn fresh.below best.best.below best.best.passes));
          })
          (λ whole. ⊎_elim (λ same. subst (λ (q : ℕ). place_bytes shape q image ≡ place_bytes shape q disk.base → KeepsPage shape was batch image q) (sym has.page) as_it_was same)
          (λ text. record {
            content = has.new.content;
            kept = inl (place-new shape image has.new is (batch_is.each has.i has.new has.at) text);
            which = inr (new-at batch has.new.page has.i has.new has.new.content has.at refl refl);
          }) whole)
          (fair-put shape (shape.slots + has.new.page) disk image (new_text shape has.new) (omega (arith, (batch_is.each has.i has.new has.at).below)) (writes.texts has.i has.new has.at) fair)))
          (λ none. as_it_was (fair-apart shape (shape.slots + p) disk image is.page_size (writes.others p none) fair.possible)) (in-or batch p);
      known = known;
    }

pub placed-from : (shape : Shape) (copies : ℕ → Content → Type 0) (was : ℕ → Content) (batch : List Fresh) (base : List ℕ) → IsWithinLimits shape → IsBatch shape batch
    → IsCopied shape copies was batch base → IsReady shape (IsKnown copies batch) (after_batch batch was) (after_writes base (place_writes shape batch))
placed-from shape copies was batch base is batch_is held =
    let sizes : HasSizes shape (length base) = sizes-from shape (length base) is held.ready.long in
    let writes : AreOnPlaces shape batch (length base) (place_writes shape batch) = places-on shape batch (length base) sizes batch_is in
    let new_base : List ℕ = after_writes base (place_writes shape batch) in
    let same : (n : ℕ) → AreApart shape.page_size (n * shape.page_size) (length base) (place_writes shape batch) → stretch_at shape n new_base ≡ stretch_at shape n base = λ n apart.
    stretch-piece shape n new_base ∙ pieces-apart shape.page_size (n * shape.page_size) base (place_writes shape batch) (length base) refl apart ∙ sym (stretch-piece shape n base) in
    let long : length new_base ≡ length base = length-after shape.page_size (0 * shape.page_size) base [] (place_writes shape batch) (length base) refl (apart-put shape.page_size (0 * shape.page_size) (length base) [] (place_writes shape batch) (writes.slots 0 (omega (arith, is.slots)))) in
    record {
      long = omega (arith, held.ready.long, long);
      places = λ p below. ⊎_elim (λ has. subst (λ (q : ℕ). IsInPlace shape new_base q (after_batch batch was q)) has.page
          (subst (λ (c : Content). IsInPlace shape new_base has.new.page c) (sym (after-some batch was has.new.page has.i has.new batch_is.different has.at refl))
          (place-new shape new_base has.new is (batch_is.each has.i has.new has.at)
          (stretch-piece shape (shape.slots + has.new.page) new_base
          ∙ pieces-has shape.page_size ((shape.slots + has.new.page) * shape.page_size) base (new_text shape has.new) (place_writes shape batch) (length base) refl (writes.texts has.i has.new has.at)
          (inl (places-has shape batch has.i (length base) has.new sizes batch_is.each has.at))))))
          (λ none. subst (λ (c : Content). IsInPlace shape new_base p c) (sym (after-none batch was p none))
          (same-place shape base new_base p (was p) (same (shape.slots + p) (writes.others p none)) (held.ready.places p below))) (in-or batch p);
      known = λ p n lsn page below passes.
          let here : slot_bytes shape n new_base ≡ slot_bytes shape n base = same n (writes.slots n below) in
          subst (λ (c : Content). IsKnown copies batch p c) (sym (same-copied shape base new_base n lsn here)) (held.ready.known p n lsn page below (sym (same-copy shape base new_base p n here) ∙ passes));
    }
