-- Where pages were found, one after another, and what is left of it when groups are applied to them.
use Rattle.std.proofs.Common.{◌≡◌, ◌<◌, ◌+◌, ◌*◌, ◌++◌, ◌∙◌, ◌⊎◌, ℕ, inl, inr, List, [], ◌∷◌, length, Option, Some, refl, sym, ap, subst, arith, ⊎_elim, length-append}
use Rattle.std.specs.List.{slice_get}
use Rattle.std.proofs.lemmas.Option.{slice_get_within}
use Rattle.model_base.specs.declared.shape.Shape.{Shape}
use Rattle.model_device.specs.{Disk}
use Rattle.model_page.specs.declared.content.Content.{Content}
use Rattle.model_log.specs.declared.group.Whole.{Whole}
use Rattle.model_store.proofs.Places.{push_place}
use Rattle.redo_recover.proofs.Contents.{content-both}
use Rattle.redo_recover.proofs.Rising.{replayed-above}
use Rattle.redo_recover.proofs.Setting.{slice_get-set}
use Rattle.redo_recover.specs.Devices.{OnContent}
use Rattle.redo_recover.specs.Groups.{EndBehindStarts}
use Rattle.redo_apply.specs.{ArePagesOf, AreReplayed}
use Rattle.redo_recover.specs.Pages.{AreKept, HoldsSlots, AreFoundAt, AreFoundOn, AreFoundWith, ArePlacesOf, HasItsSlot, IsFoundAt, PutsFound}
use Rattle.redo_recover.specs.declared.places.Found.{Found}
use Rattle.redo_recover.specs.declared.places.Places.{Places}

-- ONE PAGE AFTER ANOTHER.

pub at-none : (shape : Shape) (found : List Found) (image : List ℕ) → found ≡ [] → AreFoundAt shape found image
at-none shape found image none p one at = let at_none : slice_get [] p ≡ Some one = ap (λ (ones : List Found). slice_get ones p) (sym none) ∙ at in absurd cc

-- a fact of each that was found holds of one more
pushed-each : (P : ℕ → Found → Type 0) (found all : List Found) (count : ℕ) (last : Found) → length found ≡ count
    → ((p : ℕ) (one : Found) → slice_get found p ≡ Some one → P p one) → P count last → all ≡ found ++ last ∷ []
    → (p : ℕ) (one : Found) → slice_get all p ≡ Some one → P p one
pushed-each P found all count last many each is all_is p one at =
    elim (push_place found last p one (ap (λ (ones : List Found). slice_get ones p) (sym all_is) ∙ at)) [
      | inl there ↦ each p one there
      | inr (place, same) ↦ subst (λ (q : ℕ). P q one) (sym (place ∙ many)) (subst (λ (f : Found). P count f) (sym same) is)
    ]

at-push : (shape : Shape) (found all : List Found) (count : ℕ) (last : Found) (image : List ℕ) → length found ≡ count → all ≡ found ++ last ∷ []
    → AreFoundAt shape found image → IsFoundAt shape image count last → AreFoundAt shape all image
at-push shape found all count last image many all_is each is = pushed-each (λ p one. IsFoundAt shape image p one) found all count last many each is all_is

pub at-next : (shape : Shape) (found all : List Found) (count : ℕ) (last : Found) (told : Option Disk) → length found ≡ count → all ≡ found ++ last ∷ []
    → OnContent told (AreFoundAt shape found) → OnContent told (λ content. IsFoundAt shape content count last) → OnContent told (AreFoundAt shape all)
at-next shape found all count last told many all_is =
    content-both told (AreFoundAt shape found) (λ content. IsFoundAt shape content count last) (AreFoundAt shape all)
    (λ content each is. at-push shape found all count last content many all_is each is)

pub with-none : (shape : Shape) (found : List Found) (pages : List Content) → found ≡ [] → AreFoundWith shape 0 found pages
with-none shape found pages none = record {
  many = ap length none;
  slots = λ p one at. (let at_none : slice_get [] p ≡ Some one = ap (λ (ones : List Found). slice_get ones p) (sym none) ∙ at in absurd cc);
  lsns = λ p one page at page_at. (let at_none : slice_get [] p ≡ Some one = ap (λ (ones : List Found). slice_get ones p) (sym none) ∙ at in absurd cc);
}

-- the page that was put has the lsn with which it was found
own-lsn : (shape : Shape) (old new : List Content) (count : ℕ) (last : Found) (page : Content) → PutsFound shape count old new last → slice_get new count ≡ Some page → last.lsn ≡ page.lsn
own-lsn shape old new count last page puts at =
    elim (slice_get-set old count (record { lsn = last.lsn; user = puts.user }) count page (ap (λ (pages : List Content). slice_get pages count) (sym puts.put) ∙ at)) [
      | inl (same, is) ↦ sym (ap (λ (c : Content). c.lsn) is)
      | inr (other, there) ↦ absurd (other refl)
    ]

-- each other page stays
other-lsn : (shape : Shape) (old new : List Content) (count p : ℕ) (last : Found) (page : Content) → PutsFound shape count old new last → p < count
    → slice_get new p ≡ Some page → slice_get old p ≡ Some page
other-lsn shape old new count p last page puts less at =
    elim (slice_get-set old count (record { lsn = last.lsn; user = puts.user }) p page (ap (λ (pages : List Content). slice_get pages p) (sym puts.put) ∙ at)) [
      | inl (same, is) ↦ absurd (omega (arith, same, less))
      | inr (other, there) ↦ there
    ]

pub with-next : (shape : Shape) (found all : List Found) (old new : List Content) (count : ℕ) (last : Found) → all ≡ found ++ last ∷ []
    → AreFoundWith shape count found old → PutsFound shape count old new last → AreFoundWith shape (count + 1) all new
with-next shape found all old new count last all_is with puts = record {
  many = omega (arith, ap length all_is, length-append found (last ∷ []), with.many);
  slots = pushed-each (λ p one. HasItsSlot shape one) found all count last with.many with.slots puts.slot all_is;
  lsns = λ p one page at page_at.
      pushed-each (λ q each. (content : Content) → slice_get new q ≡ Some content → each.lsn ≡ content.lsn) found all count last with.many
      (λ q each there content content_at.
      let within : q < length found = slice_get_within found q each there in
      with.lsns q each content there (other-lsn shape old new count q last content puts (omega (arith, within, with.many)) content_at))
      (λ content content_at. own-lsn shape old new count last content puts content_at) all_is p one at page page_at;
}

-- GROUPS APPLIED.

-- a page with the lsn of which it was found is as it was kept, or its lsn has risen
found-above : (wholes : List Whole) (kept new : List Content) (shape : Shape) (count : ℕ) (found : List Found) → EndBehindStarts wholes → AreFoundWith shape count found kept
    → AreReplayed wholes kept new → (p : ℕ) (one : Found) (page : Content) → slice_get found p ≡ Some one → slice_get new p ≡ Some page
    → (slice_get kept p ≡ Some page) ⊎ (one.lsn < page.lsn)
found-above wholes kept new shape count found behind with replay p one page at page_at =
    let from = replay.each p page page_at in
    let own : one.lsn ≡ from.0.lsn = with.lsns p one from.0 at from.1 in
    ⊎_elim (λ same. inl (from.1 ∙ ap (λ (c : Content). Some c) (sym (from.2 ∙ same))))
    (λ above. inr (let lsn = ap (λ (c : Content). c.lsn) from.2 in omega (arith, own, lsn, above)))
    (replayed-above p from.0.lsn wholes from.0 from.0 behind (inl refl))

pub places-of : (shape : Shape) (places : Places) (wholes : List Whole) (kept new : List Content) → length places.slots.items ≡ shape.slots * shape.page_size
    → EndBehindStarts wholes → AreFoundWith shape shape.pages places.found.items kept → AreReplayed wholes kept new → ArePagesOf shape new → ArePlacesOf shape places new
places-of shape places wholes kept new room behind with replay its = record {
  have_slots = record { room = room; count = with.many; below = with.slots };
  its_pages = its;
  risen = λ p one page at page_at.
      ⊎_elim (λ same. (let lsn = with.lsns p one page at same in omega (arith, lsn))) (λ above. omega (arith, above))
      (found-above wholes kept new shape shape.pages places.found.items behind with replay p one page at page_at);
}

found-on : (shape : Shape) (places : Places) (wholes : List Whole) (kept new : List Content) (image : List ℕ) → EndBehindStarts wholes
    → AreFoundWith shape shape.pages places.found.items kept → AreReplayed wholes kept new → HoldsSlots shape places.slots.items image
    → AreKept shape image kept → AreFoundAt shape places.found.items image → AreFoundOn shape places new image
found-on shape places wholes kept new image behind with replay slots are each = record {
  slots = slots;
  each = each;
  same = λ p one page at page_at lsns.
      ⊎_elim (λ same. are.each p page same) (λ above. absurd (omega (arith, lsns, above)))
      (found-above wholes kept new shape shape.pages places.found.items behind with replay p one page at page_at);
}

-- the slots were read, the pages kept and found, and the groups applied
pub found-read : (shape : Shape) (places : Places) (wholes : List Whole) (kept new : List Content) (told : Option Disk) → EndBehindStarts wholes
    → AreFoundWith shape shape.pages places.found.items kept → AreReplayed wholes kept new → OnContent told (HoldsSlots shape places.slots.items)
    → OnContent told (λ content. AreKept shape content kept) → OnContent told (AreFoundAt shape places.found.items) → OnContent told (AreFoundOn shape places new)
found-read shape places wholes kept new told behind with replay slots are each =
    content-both told (HoldsSlots shape places.slots.items) (λ content. AreKept shape content kept × AreFoundAt shape places.found.items content) (AreFoundOn shape places new)
    (λ content held both. found-on shape places wholes kept new content behind with replay held both.0 both.1) slots
    (content-both told (λ content. AreKept shape content kept) (AreFoundAt shape places.found.items) (λ content. AreKept shape content kept × AreFoundAt shape places.found.items content)
    (λ content one other. (one, other)) are each)
