-- Pages that stand where they were found, while others are repaired.
use Rattle.std.proofs.Common.{◌≡◌, ◌≢◌, ◌≤◌, ◌<◌, ◌+◌, ◌-◌, ◌*◌, ◌∙◌, ℕ, List, take, drop, Option, Some, None, sym, ap, subst, arith}
use Rattle.std.specs.Prelude.{IfSome, MatchOption}
use Rattle.std.specs.List.{slice_get}
use Rattle.std.proofs.lemmas.Option.{slice_get_within}
use Rattle.model_base.specs.declared.shape.Shape.{Shape}
use Rattle.model_parts.proofs.Kept.{same-place_lsn}
use Rattle.model_parts.proofs.Repairs.{same-best}
use Rattle.model_parts.proofs.Rows.{row_ends}
use Rattle.model_parts.specs.{SameSlots}
use Rattle.model_device.specs.{Disk}
use Rattle.model_page.specs.{IsBestCopy, place_bytes, place_lsn, slot_bytes}
use Rattle.model_page.specs.declared.content.Content.{Content}
use Rattle.redo_open.specs.Mend.{AreMended, IsSettledData, StandFrom}
use Rattle.redo_recover.proofs.Keeping.{slot-same}
use Rattle.redo_recover.specs.{AreFoundOn, HaveSlots}
use Rattle.redo_recover.specs.declared.places.Found.{Found}
use Rattle.redo_recover.specs.declared.places.Places.{Places}
use Rattle.redo_store.proofs.Repaired.{slot-part}
use Rattle.redo_store.specs.{IsCopyToPut}

-- AT FIRST.

pub stand-first : (shape : Shape) (places : Places) (pages : List Content) (disk : Disk) → AreFoundOn shape places pages disk.base → StandFrom shape places 0 disk
stand-first shape places pages disk are = record {
  slots = λ slot below. slot-same shape places.slots.items disk.base slot are.slots below;
  each = λ p found from at. are.each p found at;
}

-- WHILE OTHERS ARE REPAIRED.

still : (shape : Shape) (a b : List ℕ) (p lsn : ℕ) (slot : Option ℕ) → place_bytes shape p b ≡ place_bytes shape p a → SameSlots shape a b
    → MatchOption slot (place_lsn shape a p ≡ Some lsn) (λ s. (place_lsn shape a p ≡ None) × IsBestCopy shape a p s lsn)
    → MatchOption slot (place_lsn shape b p ≡ Some lsn) (λ s. (place_lsn shape b p ≡ None) × IsBestCopy shape b p s lsn)
still shape a b p lsn None place slots is = same-place_lsn shape a b p place ∙ is
still shape a b p lsn (Some slot) place slots is = (same-place_lsn shape a b p place ∙ is.0, same-best shape a b p slot lsn slots is.1)

pub stand-behind : (shape : Shape) (places : Places) (count : ℕ) (a b : Disk) → HaveSlots shape places → StandFrom shape places 0 a → AreMended shape count a b
    → StandFrom shape places count b
stand-behind shape places count a b have stand mended = record {
  slots = λ slot below. stand.slots slot below ∙ sym (mended.stays.slots slot below);
  each = λ p found from at. (
      let within = slice_get_within places.found.items p found at in
      still shape a.base b.base p found.lsn found.slot (mended.others p (omega (arith, have.count)) from) mended.stays.slots (stand.each p found (omega arith) at));
}

-- THE PAGE THAT COMES NEXT.

-- its place passes
pub stands-in_place : (shape : Shape) (places : Places) (page : ℕ) (found : Found) (disk : Disk) → StandFrom shape places page disk
    → slice_get places.found.items page ≡ Some found → found.slot ≡ None → place_lsn shape disk.base page ≢ None
stands-in_place shape places page found disk stand at no_slot none =
    let is = subst (λ (o : Option ℕ). MatchOption o (place_lsn shape disk.base page ≡ Some found.lsn)
    (λ s. (place_lsn shape disk.base page ≡ None) × IsBestCopy shape disk.base page s found.lsn)) no_slot (stand.each page found (omega arith) at) in
    let both : Some found.lsn ≡ None = sym is ∙ none in cc

-- or this is the copy that is to be put there
pub stands-in_slot : (shape : Shape) (places : Places) (page slot : ℕ) (found : Found) (disk : Disk) (size : ℕ) → shape.page_size ≡ size → IsSettledData shape disk
    → StandFrom shape places page disk → slice_get places.found.items page ≡ Some found → found.slot ≡ Some slot
    → IsCopyToPut shape page (take (slot * size + size - slot * size) (drop (slot * size) places.slots.items)) disk
stands-in_slot shape places page slot found disk size size_is settled stand at in_slot =
    let is = subst (λ (o : Option ℕ). MatchOption o (place_lsn shape disk.base page ≡ Some found.lsn)
    (λ s. (place_lsn shape disk.base page ≡ None) × IsBestCopy shape disk.base page s found.lsn)) in_slot (stand.each page found (omega arith) at) in
    let reads : disk.reads ≡ disk.base = ap (λ (d : Disk). d.reads) settled.nothing_pending in
    let slots : List ℕ = places.slots.items in
    record {
      broken = ap (λ bytes. place_lsn shape bytes page) reads ∙ is.0;
      slot = slot;
      lsn = found.lsn;
      best = subst (λ bytes. IsBestCopy shape bytes page slot found.lsn) (sym reads) is.1;
      copy = subst (λ (n : ℕ). take (slot * n + n - slot * n) (drop (slot * n) slots) ≡ slot_bytes shape slot slots) size_is (slot-part shape slot slots) ∙ stand.slots slot is.1.below ∙ sym (ap (slot_bytes shape slot) reads);
    }

-- its slot is one of the store's
pub slot-below : (shape : Shape) (places : Places) (page slot : ℕ) (found : Found) → HaveSlots shape places → slice_get places.found.items page ≡ Some found
    → found.slot ≡ Some slot → slot < shape.slots
slot-below shape places page slot found have at in_slot =
    subst (λ (o : Option ℕ). IfSome o (λ s. s < shape.slots)) in_slot (have.below page found at)

-- which stands within the slots
pub slot-room : (slot slots page_size size : ℕ) → slot < slots → page_size ≡ size → slot * size + size ≤ slots * page_size
slot-room slot slots page_size size below is = subst (λ n. slot * size + size ≤ slots * n) (sym is) (row_ends slot slots size below)
