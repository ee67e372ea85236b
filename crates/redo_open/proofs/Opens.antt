-- The data part of a store that is read, opened.
use Rattle.std.proofs.Common.{◌≡◌, ◌<◌, ◌⊎◌, ℕ, inl, inr, false, List, [], length, Option, Some, None, refl, sym, ap, subst, ◌∙◌, ⊎_elim, arith}
use Rattle.std.specs.Prelude.{IfSome}
use Rattle.std.specs.List.{slice_get}
use Rattle.std.proofs.lemmas.Option.{slice_get_within}
use Rattle.model_base.specs.declared.shape.Shape.{Shape}
use Rattle.model_base.specs.{IsWithinLimits}
use Rattle.model_parts.specs.{AreHeld, AreRepaired, Fresh, ImageHolds, IsNew, IsRewriting, IsUpTo, IsWrittenOver, Keeps, KeepsAll, KeepsPage, read_as}
use Rattle.model_parts.specs.Stored.{Stored}
use Rattle.model_parts.proofs.Orderly.{orderly-opened}
use Rattle.model_parts.proofs.Parts.{opened-stored}
use Rattle.model_device.specs.{settled, Disk}
use Rattle.model_parts.proofs.Mended.{repaired-orderly, held_at, repaired-held}
use Rattle.model_parts.proofs.Pages.{read-page, repairing-image, writing-image}
use Rattle.model_page.proofs.Kept.{same_kept}
use Rattle.model_page.specs.{IsInPlace, IsKept}
use Rattle.model_page.specs.declared.content.Content.{Content}
use Rattle.model_store.specs.{IsOrderly, Reading}
use Rattle.redo_disk.proofs.Told.{known-as}
use Rattle.redo_disk.specs.{OnTold}
use Rattle.redo_open.proofs.Mends.{settled-keeps}
use Rattle.redo_open.specs.Mend.{AreMended, IsSettledData}
use Rattle.redo_open.specs.Places.{IsReadAs, KeepsPlaces, HoldsPlaces, MayBeWritten}
use Rattle.redo_open.specs.Rewrite.{IsWrittenTo, KeepsWritten}
use Rattle.redo_recover.specs.{AreFoundOn}
use Rattle.redo_recover.specs.declared.places.Found.{Found}
use Rattle.redo_recover.specs.declared.places.Places.{Places}

-- WHILE PLACES ARE REPAIRED.

pub repair-keeps : (shape : Shape) (pages : List Content) (log_bytes data_bytes : List ℕ) (opened : Reading) (a b : Disk) → IsReadAs shape pages log_bytes data_bytes opened
    → a ≡ settled data_bytes → KeepsAll shape a b → KeepsPlaces shape data_bytes opened b
repair-keeps shape pages log_bytes data_bytes opened a b is same =
    let base : a.base ≡ data_bytes = ap (λ (d : Disk). d.base) same in
    let orderly : IsOrderly log_bytes a.base opened = subst (λ (bytes : List ℕ). IsOrderly log_bytes bytes opened) (sym base) is.orderly in
    subst (λ (s : Shape). KeepsAll s a b → KeepsPlaces s data_bytes opened b) is.shape_is
    (λ keeps image fair. subst (λ (bytes : List ℕ). IsRewriting opened bytes image) base (repairing-image opened log_bytes a b image orderly keeps fair))

-- ONCE THEY ARE, pages may be written.

-- a page that has still the lsn with which it was found is in its place then
found-held : (log_bytes : List ℕ) (opened : Reading) (places : Places) (a b : List ℕ) (p : ℕ) (one : Found) (page : Content) → length opened.pages ≡ opened.shape.pages
    → AreRepaired opened.shape a b → AreFoundOn opened.shape places opened.pages a
    → slice_get places.found.items p ≡ Some one → slice_get opened.pages p ≡ Some page → one.lsn ≡ page.lsn → held_at opened.shape b p ≡ read_as opened p
found-held log_bytes opened places a b p one page count repaired found there at lsns =
    let within = slice_get_within opened.pages p page at in
    let below : p < opened.shape.pages = omega arith in
    let kept : IsKept opened.shape b p page = (repaired.same p page below).0 (found.same p one page there at lsns) in
    let are : AreHeld opened.shape b (held_at opened.shape b) = repaired-held opened.shape a b repaired in
    same_kept opened.shape b p (held_at opened.shape b p) page (inl (are p below)) kept ∙ sym (read-page opened p page at)

mended-repaired : (shape : Shape) (a b : Disk) → AreMended shape shape.pages a b → AreRepaired shape a.base b.base
mended-repaired shape a b is = record { same_length = is.stays.same_length; same = is.stays.same; slots = is.stays.slots; pass = is.pass }

may-write-own : (log_bytes : List ℕ) (opened : Reading) (places : Places) (a b : Disk) → IsWithinLimits opened.shape → IsOrderly log_bytes a.base opened
    → AreFoundOn opened.shape places opened.pages a.base → AreMended opened.shape opened.shape.pages a b → MayBeWritten opened.shape opened.pages places.found.items a.base opened (Some b)
may-write-own log_bytes opened places a b limits orderly found mended =
    let shape : Shape = opened.shape in
    let repaired : AreRepaired shape a.base b.base = mended-repaired shape a b mended in
    let again : IsOrderly log_bytes b.base opened = repaired-orderly log_bytes a.base b.base opened orderly repaired in
    let held : ℕ → Content = held_at shape b.base in
    let are : AreHeld shape b.base held = repaired-held shape a.base b.base repaired in
    record {
      start = held;
      tops = record {
        each = λ p page at. read-page opened p page at;
        same = λ p one page there at lsns. found-held log_bytes opened places a.base b.base p one page orderly.reads.count repaired found there at lsns;
      };
      written = record {
        was = held;
        stored = opened-stored shape (read_as opened) held b limits (orderly-opened log_bytes opened held b again mended.stays.nothing_pending are);
        before = λ p. inl refl;
        done = λ p below. absurd (omega arith);
      };
      kept = λ p below. inl ((repaired.same p (held p) below).1 (inl (are p below)));
    }

pub may-write : (shape : Shape) (pages : List Content) (places : Places) (log_bytes data_bytes : List ℕ) (opened : Reading) (a b : Disk) → IsWithinLimits shape
    → IsReadAs shape pages log_bytes data_bytes opened → a ≡ settled data_bytes → AreFoundOn shape places pages a.base → AreMended shape shape.pages a b
    → MayBeWritten shape pages places.found.items data_bytes opened (Some b)
may-write shape pages places log_bytes data_bytes opened a b limits is same =
    let base : a.base ≡ data_bytes = ap (λ (d : Disk). d.base) same in
    let orderly : IsOrderly log_bytes a.base opened = subst (λ (bytes : List ℕ). IsOrderly log_bytes bytes opened) (sym base) is.orderly in
    let found : List Found = places.found.items in
    subst (λ (s : Shape). AreFoundOn s places pages a.base → AreMended s s.pages a b → MayBeWritten s pages found data_bytes opened (Some b)) is.shape_is
    (subst (λ (list : List Content). AreFoundOn opened.shape places list a.base → AreMended opened.shape opened.shape.pages a b
    → MayBeWritten opened.shape list found data_bytes opened (Some b)) is.pages_are
    (λ found_on mended. subst (λ (bytes : List ℕ). MayBeWritten opened.shape opened.pages found bytes opened (Some b)) base
    (may-write-own log_bytes opened places a b (subst IsWithinLimits (sym is.shape_is) limits) orderly found_on mended)))

-- where the device doesn't tell, they may too
pub may-write-untold : (shape : Shape) (pages : List Content) (found : List Found) (log_bytes data_bytes : List ℕ) (opened : Reading) → IsReadAs shape pages log_bytes data_bytes opened
    → MayBeWritten shape pages found data_bytes opened None
may-write-untold shape pages found log_bytes data_bytes opened is = record {
  start = read_as opened;
  tops = record {
    each = λ p page at. read-page opened p page (ap (λ (list : List Content). slice_get list p) is.pages_are ∙ at);
    same = λ p one page there at lsns. refl;
  };
  written = record { was = read_as opened; stored = tt; before = λ p. inl refl; done = λ p below. refl };
  kept = λ p below. inr refl;
}

-- WHILE PAGES ARE WRITTEN.

write-keeps-own : (log_bytes data_bytes : List ℕ) (opened : Reading) (was start : ℕ → Content) (batch : List Fresh) (disk : Disk) → IsOrderly log_bytes data_bytes opened
    → ((p : ℕ) → p < opened.shape.pages → IsKept opened.shape data_bytes p (start p) ⊎ (start p ≡ read_as opened p))
    → ((p : ℕ) → (was p ≡ start p) ⊎ (was p ≡ read_as opened p)) → ((p : ℕ) (content : Content) → IsNew batch p content → content ≡ read_as opened p)
    → Keeps opened.shape (IsUpTo (read_as opened)) was batch disk → KeepsPlaces opened.shape data_bytes opened disk
write-keeps-own log_bytes data_bytes opened was start batch disk orderly kept before as_read keeps image fair =
    let over : IsWrittenOver opened data_bytes was batch = record {
      before = λ p below. ⊎_elim
          (λ old. ⊎_elim (λ there. inl (subst (IsKept opened.shape data_bytes p) (sym old) there)) (λ read. inr (old ∙ read)) (kept p below))
          (λ new. inr new) (before p);
      as_read = as_read;
    } in
    writing-image opened log_bytes data_bytes was batch disk image orderly.reads over keeps fair

pub write-keeps : (shape : Shape) (pages : List Content) (log_bytes data_bytes : List ℕ) (opened : Reading) (start : ℕ → Content) (told : Option Disk)
    → IsReadAs shape pages log_bytes data_bytes opened → ((p : ℕ) → p < shape.pages → IsKept shape data_bytes p (start p) ⊎ (start p ≡ read_as opened p))
    → KeepsWritten shape (read_as opened) start told → IfSome told (KeepsPlaces shape data_bytes opened)
write-keeps shape pages log_bytes data_bytes opened start told is =
    subst (λ (s : Shape). ((p : ℕ) → p < s.pages → IsKept s data_bytes p (start p) ⊎ (start p ≡ read_as opened p))
    → KeepsWritten s (read_as opened) start told → IfSome told (KeepsPlaces s data_bytes opened)) is.shape_is
    (λ kept w. known-as told (Keeps opened.shape (IsUpTo (read_as opened)) w.was w.batch) (KeepsPlaces opened.shape data_bytes opened)
    (λ disk keeps. write-keeps-own log_bytes data_bytes opened w.was start w.batch disk is.orderly kept w.before w.as_top keeps) w.keeps)

-- ONCE ALL ARE.

stored-as : (shape : Shape) (top was : ℕ → Content) (disk : Disk) → ((p : ℕ) → p < shape.pages → was p ≡ top p)
    → Stored shape (IsUpTo top) was [] false disk → Stored shape (IsUpTo top) top [] false disk
stored-as shape top was disk same stored = record {
  keeps = record {
    long = stored.keeps.long;
    each = λ image fair. (
        let holds : ImageHolds shape (IsUpTo top) was [] image = stored.keeps.each image fair in
        record {
          pages = λ p below. (
              let page : KeepsPage shape was [] image p = holds.pages p below in
              record { content = page.content; kept = page.kept; which = ⊎_elim (λ old. inl (old ∙ same p below)) (λ new. inr new) page.which });
          known = holds.known;
        });
  };
  steady = λ live. (
      let steady = stored.steady live in
      record { nothing_pending = steady.nothing_pending; places = λ p below. in-place shape disk.base p (was p) (top p) (same p below) (steady.places p below) });
}
  where
    in-place : (shape : Shape) (image : List ℕ) (p : ℕ) (c d : Content) → c ≡ d → IsInPlace shape image p c → IsInPlace shape image p d
    in-place shape image p c d same is = subst (IsInPlace shape image p) same is

pub all-written : (shape : Shape) (opened : Reading) (start : ℕ → Content) (told : Option Disk) → IsWrittenTo shape (read_as opened) start shape.pages told
    → IfSome told (HoldsPlaces shape opened)
all-written shape opened start told w =
    known-as told (Stored shape (IsUpTo (read_as opened)) w.was [] false) (HoldsPlaces shape opened)
    (λ disk stored. stored-as shape (read_as opened) w.was disk (λ p below. w.done p below) stored) w.stored

-- ONE AFTER THE OTHER.

pub mended-may_write : (shape : Shape) (pages : List Content) (places : Places) (log_bytes data_bytes : List ℕ) (opened : Reading) (old mid : Option Disk) → IsWithinLimits shape
    → IsReadAs shape pages log_bytes data_bytes opened → IfSome old (λ disk. disk ≡ settled data_bytes) → IfSome old (λ disk. AreFoundOn shape places pages disk.base)
    → OnTold old mid (AreMended shape shape.pages) → MayBeWritten shape pages places.found.items data_bytes opened mid
mended-may_write shape pages places log_bytes data_bytes opened None mid limits is known found told =
    subst (λ (o : Option Disk). MayBeWritten shape pages places.found.items data_bytes opened o) (sym told) (may-write-untold shape pages places.found.items log_bytes data_bytes opened is)
mended-may_write shape pages places log_bytes data_bytes opened (Some a) mid limits is known found told =
    subst (λ (o : Option Disk). MayBeWritten shape pages places.found.items data_bytes opened o) (sym told.1)
    (may-write shape pages places log_bytes data_bytes opened a told.0 limits is known found told.2)

pub unchanged-keeps : (shape : Shape) (pages : List Content) (log_bytes data_bytes : List ℕ) (opened : Reading) (told : Option Disk)
    → IsReadAs shape pages log_bytes data_bytes opened → IfSome told (IsSettledData shape) → IfSome told (λ disk. disk ≡ settled data_bytes)
    → IfSome told (KeepsPlaces shape data_bytes opened)
unchanged-keeps shape pages log_bytes data_bytes opened None is settled_data known = tt
unchanged-keeps shape pages log_bytes data_bytes opened (Some a) is settled_data known =
    repair-keeps shape pages log_bytes data_bytes opened a a is known (settled-keeps shape a settled_data)
