-- Which mark is the newest on a fair image of an archive device, and the reading theorem.
use Rattle.std.proofs.Common.{◌≡◌, ◌≤◌, ◌<◌, ◌+◌, ◌*◌, ◌%◌, ◌⊎◌, ◌==◌, ℕ, zero, suc, inl, inr, true, false, cond, List, [], ◌∷◌, length, take, Option, Some, None, refl, sym, ap, subst, ◌∙◌, ⊎_elim, arith}
use Rattle.std.specs.Prelude.{nat_lt}
use Rattle.std.specs.List.{AllByRecursion}
use Rattle.std.proofs.lemmas.Bool.{cases_Bool}
use Rattle.std.proofs.lemmas.Bool.Decides.{nat_tests}
use Rattle.std.proofs.lemmas.List.Elements.{All-head, All-tail}
use Rattle.model_base.specs.declared.shape.Shape.{Shape}
use Rattle.model_device.specs.{after_write, after_writes, AreSectorWrites, IsSectorWrite, IsWrittenBy, sector, Disk}
use Rattle.model_device.specs.MayHold.{MayHold}
use Rattle.model_device.specs.declared.write.Write.{Write}
use Rattle.model_device.proofs.Images.{sector-after_write}
use Rattle.model_device.proofs.Overwritten.{length-overwritten}
use Rattle.model_log.specs.declared.group.Whole.{Whole}
use Rattle.model_log.specs.{fits_checksum, groups_of, newer}
use Rattle.model_page.specs.declared.content.Content.{Content}
use Rattle.model_parts.specs.{MayStand}
use Rattle.model_store.specs.{IsStorable, IsWholeSector}
use Rattle.model_archive.specs.Holds.{ArchiveHolds, HoldsUpTo, IsBesideMark}
use Rattle.model_archive.specs.Restore.{mark_place, newest_mark, read_mark, IsFairArchive}
use Rattle.model_archive.specs.Reads.{ReadsArchive}
use Rattle.model_archive.specs.declared.marks.ArchMarks.{ArchMarks}
use Rattle.model_archive.specs.Texts.{other_mark_place}
use Rattle.model_archive.proofs.Restored.{restores-up_to}

-- what stands in a sector after some writes: what stood there before, or what one of them put there
after-some : (n : ℕ) (base : List ℕ) (writes : List Write) (k : ℕ) → AreSectorWrites (length base) writes
    → (sector k (after_writes base (take n writes)) ≡ sector k base)
    ⊎ IsWrittenBy writes k (sector k (after_writes base (take n writes)))
after-some zero base writes k all = inl refl
after-some (suc n) base [] k all = inl refl
after-some (suc n) base (write ∷ writes) k all =
    let first : IsSectorWrite (length base) write = All-head (IsSectorWrite (length base)) write writes all in
    let next : List ℕ = after_write base write in
    let long : length next ≡ length base = length-overwritten write.at write.bytes base first.within in
    let others : AreSectorWrites (length next) writes = subst (λ (n : ℕ). AreSectorWrites n writes) (sym long)
    (All-tail (IsSectorWrite (length base)) write writes all) in
    ⊎_elim (λ same. ⊎_elim (λ here. inr (inl (here.0, same ∙ here.1))) (λ old. inl (same ∙ old))
    (sector-after_write base write k first))
    (λ later. inr (inr later)) (after-some n next writes k others)

whole-may_hold : (disk : Disk) (k : ℕ) (bytes : List ℕ) → AreSectorWrites (length disk.base) disk.writes
    → IsWholeSector disk k bytes → MayHold disk k bytes
whole-may_hold disk k bytes sectors whole =
    subst (λ (x : List ℕ). MayHold disk k x) (sym whole.same) (after-some whole.count disk.base disk.writes k sectors)

-- what may stand in a mark's block on a fair image
stands-mark : (disk : Disk) (image : List ℕ) (k : ℕ) → AreSectorWrites (length disk.base) disk.writes
    → IsFairArchive disk image → (k ≡ 1) ⊎ (k ≡ 2) → 512 * k < length disk.base
    → MayStand disk k (sector k image)
stands-mark disk image k sectors fair which within =
    ⊎_elim (λ fits. inl (whole-may_hold disk k (sector k image) sectors (fair.marks k which fits)))
    (λ broken. ⊎_elim (λ same. inl (inl same)) (λ covered. inr (covered, broken)) (fair.possible.each k within))
    (cases_Bool (fits_checksum (sector k image)))

newer-first : (number mark : ℕ) (other : ℕ × ℕ) → other.0 < number
    → (newer (Some (number, mark)) (Some other) ≡ Some (number, mark))
    × (newer (Some other) (Some (number, mark)) ≡ Some (number, mark))
newer-first number mark other less =
    let one : nat_lt number other.0 ≡ false = grind (arith, nat_tests) in
    let two : nat_lt other.0 number ≡ true = grind (arith, nat_tests) in
    (ap (λ t. cond t (Some other) (Some (number, mark))) one, ap (λ t. cond t (Some (number, mark)) (Some other)) two)

newer-none : (first : ℕ × ℕ) → (newer (Some first) None ≡ Some first) × (newer None (Some first) ≡ Some first)
newer-none first = (refl, refl)

-- of the marks in the two blocks the newest is the one that is newer, wherever each stands
in-order : (at : ℕ → Option (ℕ × ℕ)) (number : ℕ) (found : Option (ℕ × ℕ))
    → (newer (at (mark_place number)) (at (other_mark_place number)) ≡ found)
    × (newer (at (other_mark_place number)) (at (mark_place number)) ≡ found) → newer (at 1) (at 2) ≡ found
in-order at number found both =
    ⊎_elim (λ even. let place : mark_place number ≡ 1 = ap (λ t. cond t 1 2) even in
    let other : other_mark_place number ≡ 2 = omega arith in
    ap (λ k. newer (at k) (at 2)) (sym place) ∙ ap (λ k. newer (at (mark_place number)) (at k)) (sym other) ∙ both.0)
    (λ odd. let place : mark_place number ≡ 2 = ap (λ t. cond t 1 2) odd in
    let other : other_mark_place number ≡ 1 = omega arith in
    ap (λ k. newer (at 1) (at k)) (sym place) ∙ ap (λ k. newer (at k) (at (mark_place number))) (sym other) ∙ both.1)
    (cases_Bool (number % 2 == 0))

pub mark-is : (number : ℕ) → (mark_place number ≡ 1) ⊎ (mark_place number ≡ 2)
mark-is number = ⊎_elim (λ even. inl (ap (λ t. cond t 1 2) even)) (λ odd. inr (ap (λ t. cond t 1 2) odd))
    (cases_Bool (number % 2 == 0))

pub other-is : (number : ℕ) → (other_mark_place number ≡ 1) ⊎ (other_mark_place number ≡ 2)
other-is number = ⊎_elim (λ one. inr (omega arith)) (λ two. inl (omega arith)) (mark-is number)

-- the newest mark, and up to where everything is there
record Newest (shape : Shape) (s : ℕ) (pages : List Content) (wholes : List Whole) (marks : ArchMarks) (disk : Disk)
    (image : List ℕ) : Type 0 where
  number : ℕ
  mark : ℕ
  which : ((number ≡ marks.number) × (mark ≡ marks.mark)) ⊎ ((number ≡ marks.number + 1) × (mark ≡ marks.asked))
  newest : newest_mark s image ≡ Some (number, mark)
  holds : HoldsUpTo shape s pages wholes mark disk

newest-beside : (shape : Shape) (s : ℕ) (pages : List Content) (wholes : List Whole) (marks : ArchMarks) (disk : Disk)
    (image : List ℕ) → ArchiveHolds shape s pages wholes marks disk
    → read_mark (mark_place marks.number) s (sector (mark_place marks.number) image) ≡ Some (marks.number, marks.mark)
    → (other : Option (ℕ × ℕ)) → read_mark (other_mark_place marks.number) s
    (sector (other_mark_place marks.number) image) ≡ other
    → IsBesideMark shape s pages wholes marks disk other → Newest shape s pages wholes marks disk image
newest-beside shape s pages wholes marks disk image holds own None there is =
    let at : ℕ → Option (ℕ × ℕ) = λ k. read_mark k s (sector k image) in
    let first : ℕ × ℕ = (marks.number, marks.mark) in
    record {
      number = marks.number;
      mark = marks.mark;
      which = inl (refl, refl);
      newest = in-order at marks.number (Some first) (
        ap (λ x. newer x (at (other_mark_place marks.number))) own
            ∙ ap (newer (Some first)) there,
        ap (newer (at (other_mark_place marks.number))) own
            ∙ ap (λ x. newer x (Some first)) there,
      );
      holds = holds.holds;
    }
newest-beside shape s pages wholes marks disk image holds own (Some other) there is =
    let at : ℕ → Option (ℕ × ℕ) = λ k. read_mark k s (sector k image) in
    let first : ℕ × ℕ = (marks.number, marks.mark) in
    ⊎_elim (λ older.
    let both = newer-first marks.number marks.mark other older in
    record {
      number = marks.number;
      mark = marks.mark;
      which = inl (refl, refl);
      newest = in-order at marks.number (Some first) (
        ap (λ x. newer x (at (other_mark_place marks.number))) own ∙ ap (newer (Some first)) there
            ∙ both.0,
        ap (newer (at (other_mark_place marks.number))) own ∙ ap (λ x. newer x (Some first)) there
            ∙ both.1,
      );
      holds = holds.holds;
    })
    (λ next.
    let both = newer-first other.0 other.1 first (omega (arith, next.0)) in
    record {
      number = other.0;
      mark = other.1;
      which = inr (next.0, next.1);
      newest = in-order at marks.number (Some other) (
        ap (λ x. newer x (at (other_mark_place marks.number))) own ∙ ap (newer (Some first)) there
            ∙ both.1,
        ap (newer (at (other_mark_place marks.number))) own ∙ ap (λ x. newer x (Some first)) there
            ∙ both.0,
      );
      holds = subst (λ (m : ℕ). HoldsUpTo shape s pages wholes m disk) (sym next.1) next.2;
    }) is

-- THE READING THEOREM.
pub archive-reads : (shape : Shape) (s : ℕ) (pages : List Content) (wholes : List Whole) (marks : ArchMarks)
    (disk : Disk) (image : List ℕ)
    → AllByRecursion (IsStorable shape) (groups_of wholes) → ArchiveHolds shape s pages wholes marks disk
    → IsFairArchive disk image → ReadsArchive s pages wholes marks image
archive-reads shape s pages wholes marks disk image good holds fair =
    let place : ℕ = mark_place marks.number in
    let other : ℕ = other_mark_place marks.number in
    let long : 1536 ≤ length disk.base = omega (arith, holds.holds.long) in
    let own_is = mark-is marks.number in
    let beside_is = other-is marks.number in
    let own = holds.newest (sector place image) (stands-mark disk image place holds.sectors fair own_is
    (⊎_elim (λ e. omega arith) (λ o. omega arith) own_is)) in
    let beside = holds.beside (sector other image) (stands-mark disk image other holds.sectors fair beside_is
    (⊎_elim (λ e. omega arith) (λ o. omega arith) beside_is)) in
    let found : Newest shape s pages wholes marks disk image =
    newest-beside shape s pages wholes marks disk image holds own
    (read_mark other s (sector other image)) refl beside in
    record {
      number = found.number;
      mark = found.mark;
      newest = found.newest;
      which = found.which;
      restores = restores-up_to shape s pages wholes found.number found.mark disk image holds.limits holds.start good
          holds.run found.holds fair.possible found.newest;
    }
