-- The repair of a page keeps what each fair image holds.
use Rattle.std.proofs.Common.{◌≡◌, ◌≢◌, ◌≤◌, ◌<◌, ◌+◌, ◌*◌, ◌⊎◌, ℕ, inl, inr, List, [], ◌∷◌, ◌++◌, length, drop, Option, Some, None, refl, sym, ap, subst, ◌∙◌, ⊎_elim, length-take, length-drop, arith}
use Rattle.std.specs.Prelude.{◌↔◌}
use Rattle.std.proofs.lemmas.Bool.{cases_lt}
use Rattle.model_base.specs.declared.shape.Shape.{Shape}
use Rattle.model_page.specs.{copy_lsn, copy_lsn_by, data_device_length, HasBestCopy, IsBestCopy, IsInSlot, IsKept, page_check, place_bytes, place_lsn, place_lsn_by, slot_bytes, stretch_at, user_part}
use Rattle.model_page.specs.declared.content.Content.{Content}
use Rattle.model_page.specs.declared.page.PageState.{PageState}
use Rattle.model_page.specs.declared.page.PageState.TheVariants.{Blank, Sound, Broken}
use Rattle.model_device.specs.{after_write, settled, Disk}
use Rattle.model_device.specs.declared.write.Write.{Write}
use Rattle.model_store.specs.{IsFair}
use Rattle.model_parts.specs.Repair.{SameSlots, IsCopyPut, IsPutBack, FailsPutBack, repair_write, KeepsSame, IsRepairable, KeepsAll, IsRepaired}
use Rattle.model_parts.specs.Stored.{HasNothingPending}
use Rattle.model_page.proofs.BestCopy.{best-copy}
use Rattle.model_parts.proofs.Stretches.{IsApart, IsPut, AreApart, ArePut, fair-apart, fair-put, pieces-apart, pieces-has, length-after, stretch-piece}
use Rattle.model_parts.proofs.Writes.{HasSizes, sizes-from, stretch-apart, stretch-ends, stretch-put}
use Rattle.model_base.specs.{IsWithinLimits}
use Rattle.model_page.proofs.Kept.{same_best}
use Rattle.model_parts.proofs.Kept.{same-place, same-place_lsn, same-copy, broken-place}

pub same-best : (shape : Shape) (old new : List ℕ) (p slot lsn : ℕ) → SameSlots shape old new → IsBestCopy shape old p slot lsn → IsBestCopy shape new p slot lsn
same-best shape old new p slot lsn same best = record {
  below = best.below;
  passes = same-copy shape old new p slot (same slot best.below) ∙ best.passes;
  greatest = λ other found below passes. best.greatest other found below (sym (same-copy shape old new p other (same other below)) ∙ passes);
  lowest = λ other found less passes. best.lowest other found less (sym (same-copy shape old new p other (same other (omega (arith, best.below)))) ∙ passes);
}

same-slot : (shape : Shape) (old new : List ℕ) (p : ℕ) (content : Content) → SameSlots shape old new → place_lsn shape new p ≡ None → IsInSlot shape old p content → IsInSlot shape new p content
same-slot shape old new p content same broken is = record {
  broken = broken;
  slot = is.slot;
  best = same-best shape old new p is.slot content.lsn same is.best;
  user = is.user ∙ ap user_part (sym (same is.slot is.best.below));
}

same-kept : (shape : Shape) (old new : List ℕ) (p : ℕ) (content : Content) → SameSlots shape old new → place_bytes shape p new ≡ place_bytes shape p old → IsKept shape old p content → IsKept shape new p content
same-kept shape old new p content same place is =
    ⊎_elim (λ here. inl (same-place shape old new p content place here))
    (λ slot. inr (same-slot shape old new p content same (same-place_lsn shape old new p place ∙ slot.broken) slot)) is

back : (shape : Shape) (old new : List ℕ) → SameSlots shape old new → SameSlots shape new old
back shape old new same slot below = sym (same slot below)

none-some : (x : ℕ) (o : Option ℕ) → o ≡ None → o ≡ Some x → ⊥
none-some x o none some = let both : None ≡ Some x = sym none ∙ some in absurd cc

some-same : (x y : ℕ) (o : Option ℕ) → o ≡ Some x → o ≡ Some y → x ≡ y
some-same x y o p q = let both : Some x ≡ Some y = sym p ∙ q in cc

passing-place : (shape : Shape) (p lsn : ℕ) (state : PageState) → copy_lsn_by shape p state ≡ Some lsn → place_lsn_by shape p state ≡ Some lsn
passing-place shape p lsn Blank is = absurd cc
passing-place shape p lsn (Sound number space found) is = is
passing-place shape p lsn Broken is = absurd cc

put-kept : (shape : Shape) (old new : List ℕ) (p slot lsn : ℕ) (content : Content) → SameSlots shape old new → place_lsn shape old p ≡ None → IsBestCopy shape old p slot lsn
    → place_bytes shape p new ≡ slot_bytes shape slot old → IsKept shape old p content ↔ IsKept shape new p content
put-kept shape old new p slot lsn content same broken best place =
    let passes : place_lsn shape new p ≡ Some lsn = ap (λ b. place_lsn_by shape p (page_check b)) place ∙ passing-place shape p lsn (page_check (slot_bytes shape slot old)) best.passes in (
      λ is. ⊎_elim (λ here. absurd (none-some content.lsn (place_lsn shape old p) broken here.passes))
          (λ in_slot. let one = same_best shape old p in_slot.slot slot content.lsn lsn in_slot.best best in
          inl (record { passes = passes ∙ ap (λ (n : ℕ). Some n) (sym one.1); user = in_slot.user ∙ ap (λ s. user_part (slot_bytes shape s old)) one.0 ∙ ap user_part (sym place) })) is,
      λ is. ⊎_elim (λ here. let one : lsn ≡ content.lsn = some-same lsn content.lsn (place_lsn shape new p) passes here.passes in
          inr (record { broken = broken; slot = slot; best = subst (λ (n : ℕ). IsBestCopy shape old p slot n) one best; user = here.user ∙ ap user_part place }))
          (λ in_slot. absurd (none-some lsn (place_lsn shape new p) in_slot.broken passes)) is,
    )

-- an image whose slots are as they were, as are the places but that of the page, which is torn, or as it was, or holds the copy
record IsMended (shape : Shape) (page slot : ℕ) (old new : List ℕ) : Type 0 where
  slots : SameSlots shape old new
  others : (p : ℕ) → p < shape.pages → (p ≡ page → ⊥) → place_bytes shape p new ≡ place_bytes shape p old
  place : (page_check (place_bytes shape page new) ≡ Broken) ⊎ (place_bytes shape page new ≡ place_bytes shape page old) ⊎ (place_bytes shape page new ≡ slot_bytes shape slot old)

same-or : (p q : ℕ) → (p ≡ q) ⊎ (p ≡ q → ⊥)
same-or p q = ⊎_elim (λ less. inr (λ is. absurd (omega arith))) (λ not_less. ⊎_elim (λ more. inr (λ is. absurd (omega arith))) (λ not_more. inl (omega arith)) (cases_lt q p)) (cases_lt p q)

mended-keeps : (shape : Shape) (page slot lsn : ℕ) (old new : List ℕ) → place_lsn shape old page ≡ None → IsBestCopy shape old page slot lsn → IsMended shape page slot old new → KeepsSame shape old new
mended-keeps shape page slot lsn old new broken best is p content below =
    let as_it_was : place_bytes shape p new ≡ place_bytes shape p old → IsKept shape old p content ↔ IsKept shape new p content = λ place.
    (same-kept shape old new p content is.slots place, same-kept shape new old p content (back shape old new is.slots) (sym place)) in
    ⊎_elim (λ here. subst (λ (q : ℕ). IsKept shape old q content ↔ IsKept shape new q content) (sym here)
    (⊎_elim (λ torn.
    let none : place_lsn shape new page ≡ None = broken-place shape new page torn in (
      λ kept. ⊎_elim (λ place. absurd (none-some content.lsn (place_lsn shape old page) broken place.passes)) (λ in_slot. inr (same-slot shape old new page content is.slots none in_slot)) kept,
      λ kept. ⊎_elim (λ place. absurd (none-some content.lsn (place_lsn shape new page) none place.passes)) (λ in_slot. inr (same-slot shape new old page content (back shape old new is.slots) broken in_slot)) kept,
    ))
    (λ whole. ⊎_elim (λ same. subst (λ (q : ℕ). place_bytes shape q new ≡ place_bytes shape q old → IsKept shape old q content ↔ IsKept shape new q content) here as_it_was same)
    (λ text. put-kept shape old new page slot lsn content is.slots broken best text) whole) is.place))
    (λ other. as_it_was (is.others p below other)) (same-or p page)

pub length-stretch : (shape : Shape) (n : ℕ) (bytes : List ℕ) → HasSizes shape (length bytes)
    → n < shape.slots + shape.pages
    → length (stretch_at shape n bytes) ≡ shape.page_size
length-stretch shape n bytes sizes below =
    ap length (stretch-piece shape n bytes) ∙ length-take shape.page_size (drop (n * shape.page_size) bytes)
    ∙ omega (arith, length-drop (n * shape.page_size) bytes, stretch-ends shape n (length bytes) sizes below)

record IsRepairWrite (shape : Shape) (page long : ℕ) (text : List ℕ) (write : Write) : Type 0 where
  put : IsPut shape.page_size ((shape.slots + page) * shape.page_size) long text write
  apart : (n : ℕ) → (n ≡ shape.slots + page → ⊥) → IsApart shape.page_size (n * shape.page_size) long write

repair-puts : (shape : Shape) (page long : ℕ) (text : List ℕ) → HasSizes shape long → page < shape.pages
    → length text ≡ shape.page_size → IsRepairWrite shape page long text (repair_write shape page text)
repair-puts shape page long text sizes below count = record {
  put = stretch-put shape long (shape.slots + page) text sizes (omega arith) count;
  apart = λ n other. stretch-apart shape long n (shape.slots + page) text sizes (omega arith) count (λ is. other (sym is));
}

-- nothing came of the write, or it is pending
pub record IsRepairing (shape : Shape) (page slot : ℕ) (old new : Disk) : Type 0 where
  pub base : new.base ≡ old.base
  pub writes : (new.writes ≡ []) ⊎ (new.writes ≡ repair_write shape page (slot_bytes shape slot old.base) ∷ [])

record AreRepairing (shape : Shape) (page long : ℕ) (text : List ℕ) (writes : List Write) : Type 0 where
  put : ArePut shape.page_size ((shape.slots + page) * shape.page_size) long text writes
  apart : (n : ℕ) → (n ≡ shape.slots + page → ⊥) → AreApart shape.page_size (n * shape.page_size) long writes

mended-image : (shape : Shape) (page slot : ℕ) (disk : Disk) (image : List ℕ) → IsWithinLimits shape → page < shape.pages
    → AreRepairing shape page (length disk.base) (slot_bytes shape slot disk.base) disk.writes → IsFair shape disk image → IsMended shape page slot disk.base image
mended-image shape page slot disk image is below writes fair = record {
  slots = λ n few. fair-apart shape n disk image is.page_size (writes.apart n (λ same. absurd (omega arith))) fair.possible;
  others = λ p inside other. fair-apart shape (shape.slots + p) disk image is.page_size (writes.apart (shape.slots + p) (λ same. other (omega arith))) fair.possible;
  place = fair-put shape (shape.slots + page) disk image (slot_bytes shape slot disk.base) (omega arith) writes.put fair;
}

pub keeps-repairing : (shape : Shape) (page slot lsn : ℕ) (old new : Disk) → IsWithinLimits shape → page < shape.pages → data_device_length shape ≤ length old.base
    → place_lsn shape old.base page ≡ None → IsBestCopy shape old.base page slot lsn → IsRepairing shape page slot old new → KeepsAll shape old new
keeps-repairing shape page slot lsn old new is below long broken best repairing =
    let sizes : HasSizes shape (length old.base) = sizes-from shape (length old.base) is long in
    let text : List ℕ = slot_bytes shape slot old.base in
    let count : length text ≡ shape.page_size = length-stretch shape slot old.base sizes (omega (arith, best.below)) in
    let write : IsRepairWrite shape page (length old.base) text (repair_write shape page text) = repair-puts shape page (length old.base) text sizes below count in
    let writes : AreRepairing shape page (length old.base) text new.writes =
    ⊎_elim (λ none. subst (λ (ws : List Write). AreRepairing shape page (length old.base) text ws) (sym none) (record { put = tt; apart = λ n other. tt }))
    (λ one. subst (λ (ws : List Write). AreRepairing shape page (length old.base) text ws) (sym one) (record { put = (inr write.put, tt); apart = λ n other. (write.apart n other, tt) })) repairing.writes in
    let mended : (image : List ℕ) → IsFair shape new image → IsMended shape page slot new.base image = λ image fair.
    mended-image shape page slot new image is below (subst (λ (b : List ℕ). AreRepairing shape page (length b) (slot_bytes shape slot b) new.writes) (sym repairing.base) writes) fair in
    record {
      long = ap length repairing.base;
      same = λ image fair. subst (λ (b : List ℕ). KeepsSame shape b image) repairing.base
          (mended-keeps shape page slot lsn new.base image (ap (λ b. place_lsn shape b page) repairing.base ∙ broken) (subst (λ (b : List ℕ). IsBestCopy shape b page slot lsn) (sym repairing.base) best)
          (mended image fair));
      slots = λ image fair n few. (mended image fair).slots n few ∙ ap (slot_bytes shape n) repairing.base;
    }

pub record HasRepaired (shape : Shape) (page : ℕ) (old new : Disk) : Type 0 where
  pub keeps : KeepsAll shape old new
  pub repaired : IsRepaired shape page old new

some-not-none : (x : ℕ) (o : Option ℕ) → o ≡ Some x → o ≢ None
some-not-none x o some none = none-some x o none some

pub keeps-repaired : (shape : Shape) (page slot lsn : ℕ) (old new : Disk) → IsWithinLimits shape → page < shape.pages → data_device_length shape ≤ length old.base
    → place_lsn shape old.base page ≡ None → IsBestCopy shape old.base page slot lsn → new ≡ settled (after_write old.base (repair_write shape page (slot_bytes shape slot old.base)))
    → HasRepaired shape page old new
keeps-repaired shape page slot lsn old new is below long broken best same =
    let sizes : HasSizes shape (length old.base) = sizes-from shape (length old.base) is long in
    let text : List ℕ = slot_bytes shape slot old.base in
    let count : length text ≡ shape.page_size = length-stretch shape slot old.base sizes (omega (arith, best.below)) in
    let write : IsRepairWrite shape page (length old.base) text (repair_write shape page text) = repair-puts shape page (length old.base) text sizes below count in
    let base : List ℕ = after_write old.base (repair_write shape page text) in
    let size : length base ≡ length old.base =
    length-after shape.page_size ((shape.slots + page) * shape.page_size) old.base text (repair_write shape page text ∷ []) (length old.base) refl (inr write.put, tt) in
    let beside : (n : ℕ) → (n ≡ shape.slots + page → ⊥) → stretch_at shape n base ≡ stretch_at shape n old.base = λ n other.
    stretch-piece shape n base ∙ pieces-apart shape.page_size (n * shape.page_size) old.base (repair_write shape page text ∷ []) (length old.base) refl (write.apart n other, tt) ∙ sym (stretch-piece shape n old.base) in
    let here : stretch_at shape (shape.slots + page) base ≡ text =
    stretch-piece shape (shape.slots + page) base
    ∙ pieces-has shape.page_size ((shape.slots + page) * shape.page_size) old.base text (repair_write shape page text ∷ []) (length old.base) refl (inr write.put, tt) (inl (inl write.put)) in
    let all : (n : ℕ) (image : List ℕ) → IsFair shape (settled base) image → stretch_at shape n image ≡ stretch_at shape n base = λ n image fair.
    fair-apart shape n (settled base) image is.page_size tt fair.possible in
    subst (λ (d : Disk). HasRepaired shape page old d) (sym same) (record {
      keeps = record {
        long = size;
        same = λ image fair. mended-keeps shape page slot lsn old.base image broken best (record {
          slots = λ n few. all n image fair ∙ beside n (λ is_place. absurd (omega arith));
          others = λ p inside other. all (shape.slots + p) image fair ∙ beside (shape.slots + p) (λ is_place. other (omega arith));
          place = inr (inr (all (shape.slots + page) image fair ∙ here));
        });
        slots = λ image fair n few. all n image fair ∙ beside n (λ is_place. absurd (omega arith));
      };
      repaired = record {
        nothing_pending = refl;
        passes = some-not-none lsn (place_lsn shape base page) (ap (λ b. place_lsn_by shape page (page_check b)) here ∙ passing-place shape page lsn (page_check text) best.passes);
        others = λ p inside other. beside (shape.slots + p) (λ is_place. other (omega arith));
        slots = λ n few. beside n (λ is_place. absurd (omega arith));
      };
    })

reads-base : (disk : Disk) → disk ≡ settled disk.base → disk.reads ≡ disk.base
reads-base disk is = ap (λ (d : Disk). d.reads) is

-- where a copy passes, the one that counts was put into the place
pub copy-put : (shape : Shape) (page : ℕ) (old new : Disk) → IsRepairable shape page old → IsPutBack shape page old new → IsCopyPut shape page old new
copy-put shape page old new can calls =
    ⊎_elim (λ done. done) (λ none. absurd (none-some can.lsn (copy_lsn shape old.reads page can.slot) (none.0 can.slot can.below) can.passes)) calls

pub copy-put_done : (shape : Shape) (page : ℕ) (old new : Disk) → IsWithinLimits shape → page < shape.pages → data_device_length shape ≤ length old.base → HasNothingPending old
    → IsRepairable shape page old → IsCopyPut shape page old new → HasRepaired shape page old new
copy-put_done shape page old new is below long nothing can done =
    let reads : old.reads ≡ old.base = reads-base old nothing in
    keeps-repaired shape page done.slot done.lsn old new is below long (ap (λ b. place_lsn shape b page) (sym reads) ∙ can.broken)
    (subst (λ (b : List ℕ). IsBestCopy shape b page done.slot done.lsn) reads done.best)
    (done.put ∙ ap (λ b. settled (after_write b (repair_write shape page (slot_bytes shape done.slot b)))) reads)

pub put-back_failed : (shape : Shape) (page : ℕ) (old new : Disk) → IsWithinLimits shape → page < shape.pages → data_device_length shape ≤ length old.base → HasNothingPending old
    → IsRepairable shape page old → FailsPutBack shape page old new → KeepsAll shape old new
put-back_failed shape page old new is below long nothing can calls =
    let reads : old.reads ≡ old.base = reads-base old nothing in
    let writes : old.writes ≡ [] = ap (λ (d : Disk). d.writes) nothing in
    let broken : place_lsn shape old.base page ≡ None = ap (λ b. place_lsn shape b page) (sym reads) ∙ can.broken in
    ⊎_elim (λ same.
    let has : HasBestCopy shape old.base page = best-copy shape old.base page can.slot can.lsn can.below (ap (λ b. copy_lsn shape b page can.slot) (sym reads) ∙ can.passes) in
    keeps-repairing shape page has.slot has.lsn old new is below long broken has.best
    (record { base = ap (λ (d : Disk). d.base) same; writes = inl (ap (λ (d : Disk). d.writes) same ∙ writes) }))
    (λ fails.
    let write : Write = repair_write shape page (slot_bytes shape fails.slot old.reads) in
    let one : old.writes ++ (write ∷ []) ≡ repair_write shape page (slot_bytes shape fails.slot old.base) ∷ [] =
    ap (λ l. l ++ (write ∷ [])) writes ∙ ap (λ b. repair_write shape page (slot_bytes shape fails.slot b) ∷ []) reads in
    keeps-repairing shape page fails.slot fails.lsn old new is below long broken (subst (λ (b : List ℕ). IsBestCopy shape b page fails.slot fails.lsn) reads fails.best)
    (⊎_elim (λ failed. record {
      base = failed.base;
      writes = ⊎_elim (λ not. inl (not.0 ∙ writes)) (λ done. inr (done.0 ∙ one)) failed.pending;
    })
    (λ pending. record { base = ap (λ (d : Disk). d.base) pending; writes = inr (ap (λ (d : Disk). d.writes) pending ∙ one) }) fails.calls)) calls
