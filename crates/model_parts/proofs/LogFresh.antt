-- A part that starts holds the run of no group.
use Rattle.std.proofs.Common.{◌≡◌, ◌&&◌, ◌≤◌, ◌<◌, ◌-◌, ◌%◌, ◌==◌, ℕ, inl, inr, Bool, true, false, cond, List, [], length, Option, Some, None, refl, sym, ap, subst, ◌∙◌, ⊎_elim, arith}
use Rattle.std.specs.Prelude.{nat_lt, nat_le}
use Rattle.std.proofs.lemmas.Bool.{cases_lt}
use Rattle.std.proofs.lemmas.Bool.Decides.{nat_tests}
use Rattle.std.proofs.lemmas.List.Elements.{All-nil}
use Rattle.model_base.specs.{field}
use Rattle.model_base.specs.declared.limits.TheConstants.{BLOCK_SIZE, FIRST_DATA_LSN, LSN_LIMIT, START_LSN}
use Rattle.model_base.specs.declared.shape.Shape.{Shape}
use Rattle.model_device.specs.{IsSectorWrite, sector, settled, Disk}
use Rattle.model_log.specs.declared.layout.Layout.{Layout}
use Rattle.model_log.specs.{fits_checksum, is_checkpoint, newer, place_in, place_of, read_checkpoint, read_head, run_layout, sector_of}
use Rattle.model_log.proofs.Places.{HasBlocks}
use Rattle.model_log.proofs.Runs.{run-none}
use Rattle.model_parts.specs.declared.marks.LogMarks.{LogMarks}
use Rattle.model_parts.specs.Held.{AreInOrder, IsBeside, IsBlockPlace, IsLive, IsTail, IsWritten, LogHoldsWith, MayStand, other_place, IsFresh}
use Rattle.model_parts.specs.Marks.{first_marks, first_tails}
use Rattle.model_parts.proofs.LogImages.{when_less, when_not_less}
use Rattle.model_parts.proofs.Torn.{synced-stands}

-- THE NEWEST CHECKPOINT.

and-second : (a b c d e f : Bool) → (a && b && c && d && e && f) ≡ true → b ≡ true
and-second true true c d e f is = refl
and-second true false c d e f is = absurd cc
and-second false b c d e f is = absurd cc

eq-from : (a b : ℕ) → (a == b) ≡ true → a ≡ b
eq-from a b test = grind (arith, nat_tests)

found-place : (t : Bool) (number lsn : ℕ) (found : ℕ × ℕ) → cond t (Some (number, lsn)) None ≡ Some found → (t ≡ true) × (number ≡ found.0)
found-place true number lsn found is = let same : (number, lsn) ≡ found = cc in (refl, ap (λ (x : ℕ × ℕ). x.0) same)
found-place false number lsn found is = absurd cc

read-place : (k : ℕ) (layout : Layout) (bytes : List ℕ) (found : ℕ × ℕ) → read_checkpoint k layout bytes ≡ Some found → place_of found.0 ≡ k
unfolding read_checkpoint
read-place k layout bytes found is =
    let here = found-place (is_checkpoint k layout bytes) (field 8 0 bytes) (field 8 8 bytes) found is in
    let test : (place_of (field 8 0 bytes) == k) ≡ true =
    and-second (fits_checksum bytes) (place_of (field 8 0 bytes) == k) (field 8 8 bytes % BLOCK_SIZE == 0) (nat_le START_LSN (field 8 8 bytes)) (nat_lt (field 8 8 bytes) LSN_LIMIT)
    (field 8 16 bytes == place_in layout (field 8 8 bytes)) here.0 in
    ap place_of (sym here.1) ∙ eq-from (place_of (field 8 0 bytes)) k test

-- the newest one, and the other one
record Stands (layout : Layout) (number ckpt : ℕ) (image : List ℕ) : Type 0 where
  own : read_checkpoint (place_of number) layout (sector (place_of number) image) ≡ Some (number, ckpt)
  older : (other : ℕ × ℕ) → read_checkpoint (other_place number) layout (sector (other_place number) image) ≡ Some other → other.0 < number

other-of : (number : ℕ) → ((place_of number ≡ 1) → other_place number ≡ 3) × ((place_of number ≡ 3) → other_place number ≡ 1)
other-of number = (λ is. ap (λ n. 4 - n) is, λ is. ap (λ n. 4 - n) is)

none-some : (found : ℕ × ℕ) → None ≡ Some found → ⊥
none-some found is = cc

some-first : (x : ℕ × ℕ) (number ckpt : ℕ) → Some x ≡ Some (number, ckpt) → x.0 ≡ number
some-first x number ckpt is = let same : x ≡ (number, ckpt) = cc in ap (λ (y : ℕ × ℕ). y.0) same

stands-from : (layout : Layout) (number ckpt : ℕ) (image : List ℕ) (a b : Option (ℕ × ℕ)) → read_checkpoint 1 layout (sector 1 image) ≡ a → read_checkpoint 3 layout (sector 3 image) ≡ b
    → newer a b ≡ Some (number, ckpt) → Stands layout number ckpt image
stands-from layout number ckpt image None None first second is = absurd cc
stands-from layout number ckpt image None (Some y) first second is =
    let at : read_checkpoint 3 layout (sector 3 image) ≡ Some (number, ckpt) = second ∙ is in
    let place : place_of number ≡ 3 = read-place 3 layout (sector 3 image) (number, ckpt) at in
    let other : other_place number ≡ 1 = (other-of number).1 place in
    record {
      own = ap (λ k. read_checkpoint k layout (sector k image)) place ∙ at;
      older = λ found found_is. (let none : None ≡ Some found = sym first ∙ sym (ap (λ k. read_checkpoint k layout (sector k image)) other) ∙ found_is in absurd (none-some found none));
    }
stands-from layout number ckpt image (Some x) None first second is =
    let at : read_checkpoint 1 layout (sector 1 image) ≡ Some (number, ckpt) = first ∙ is in
    let place : place_of number ≡ 1 = read-place 1 layout (sector 1 image) (number, ckpt) at in
    let other : other_place number ≡ 3 = (other-of number).0 place in
    record {
      own = ap (λ k. read_checkpoint k layout (sector k image)) place ∙ at;
      older = λ found found_is. (let none : None ≡ Some found = sym second ∙ sym (ap (λ k. read_checkpoint k layout (sector k image)) other) ∙ found_is in absurd (none-some found none));
    }
stands-from layout number ckpt image (Some x) (Some y) first second is =
    let x_place : place_of x.0 ≡ 1 = read-place 1 layout (sector 1 image) x first in
    let y_place : place_of y.0 ≡ 3 = read-place 3 layout (sector 3 image) y second in
    ⊎_elim (λ less.
    let newest : Some y ≡ Some (number, ckpt) = sym (when_less x.0 y.0 (Some x) (Some y) less) ∙ is in
    let at : read_checkpoint 3 layout (sector 3 image) ≡ Some (number, ckpt) = second ∙ newest in
    let place : place_of number ≡ 3 = read-place 3 layout (sector 3 image) (number, ckpt) at in
    let other : other_place number ≡ 1 = (other-of number).1 place in
    let same : y.0 ≡ number = some-first y number ckpt newest in
    record {
      own = ap (λ k. read_checkpoint k layout (sector k image)) place ∙ at;
      older = λ found found_is. (
          let same_other : Some x ≡ Some found = sym first ∙ sym (ap (λ k. read_checkpoint k layout (sector k image)) other) ∙ found_is in
          let number_is : x.0 ≡ found.0 = some-first x found.0 found.1 same_other in omega arith);
    })
    (λ not_less.
    let newest : Some x ≡ Some (number, ckpt) = sym (when_not_less x.0 y.0 (Some x) (Some y) not_less) ∙ is in
    let at : read_checkpoint 1 layout (sector 1 image) ≡ Some (number, ckpt) = first ∙ newest in
    let place : place_of number ≡ 1 = read-place 1 layout (sector 1 image) (number, ckpt) at in
    let other : other_place number ≡ 3 = (other-of number).0 place in
    let same : x.0 ≡ number = some-first x number ckpt newest in
    record {
      own = ap (λ k. read_checkpoint k layout (sector k image)) place ∙ at;
      older = λ found found_is. (
          let same_other : Some y ≡ Some found = sym second ∙ sym (ap (λ k. read_checkpoint k layout (sector k image)) other) ∙ found_is in
          let number_is : y.0 ≡ found.0 = some-first y found.0 found.1 same_other in
          ⊎_elim (λ below. omega arith) (λ equal. let one : y.0 ≡ x.0 = omega arith in let wrong : place_of y.0 ≡ 1 = ap place_of one ∙ x_place in absurd (omega arith)) (cases_lt y.0 x.0));
    }) (cases_lt x.0 y.0)

beside-older : (marks : LogMarks) (found : Option (ℕ × ℕ)) → ((other : ℕ × ℕ) → found ≡ Some other → other.0 < marks.number) → IsBeside marks found
beside-older marks None older = tt
beside-older marks (Some other) older = inl (older other refl)

-- THE START.

in_order-first : (layout : Layout) (start number : ℕ) → 1 ≤ layout.blocks → start % 512 ≡ 12 → FIRST_DATA_LSN ≤ start → AreInOrder layout start [] (first_marks start number)
in_order-first layout start number some place low = record {
  starts = place;
  run = run-none start;
  stable = refl;
  written = refl;
  given = refl;
  stable_written = omega arith;
  written_given = omega arith;
  ckpt_aligned = omega arith;
  ckpt_started = omega arith;
  ckpt_from = omega arith;
  ckpt_asked = omega arith;
  asked_stable = omega arith;
  room = omega arith;
}

-- what reads give
fresh-written : (shape : Shape) (start number : ℕ) (disk : Disk) → start % 512 ≡ 12 → IsFresh shape start number disk
    → IsWritten shape start [] (first_marks start number) (first_tails start) disk
fresh-written shape start number disk place fresh =
    let marks : LogMarks = first_marks start number in
    let stands : Stands (run_layout shape) number (start - 12) disk.reads = stands-from (run_layout shape) number (start - 12) disk.reads _ _ refl refl fresh.newest in
    record {
      long = fresh.long;
      heads = fresh.heads;
      all_given = refl;
      place = inr refl;
      blocks = λ b in_round. inr (record { none_below = omega (arith, in_round.from); unread = fresh.unread b in_round });
      tail_blocks = λ k at b aligned later. inl (fresh.no_tail k at b aligned later);
      newest_tail = inl (omega arith);
      checkpoint = stands.own;
      beside = beside-older marks (read_checkpoint (other_place number) (run_layout shape) (sector (other_place number) disk.reads)) stands.older;
    }

-- and with nothing pending that is all that there is
fresh-holds : (shape : Shape) (start number : ℕ) (disk : Disk) → HasBlocks (run_layout shape) → start % 512 ≡ 12 → FIRST_DATA_LSN ≤ start
    → IsWritten shape start [] (first_marks start number) (first_tails start) disk → LogHoldsWith shape start [] (first_marks start number) (first_tails start) (settled disk.reads)
fresh-holds shape start number disk blocks place low is =
    let marks : LogMarks = first_marks start number in
    let only : (k : ℕ) (bytes : List ℕ) → MayStand (settled disk.reads) k bytes → bytes ≡ sector k disk.reads = λ k bytes may. synced-stands disk k bytes may in
    record {
      long = is.long;
      sectors = All-nil (IsSectorWrite (length disk.reads));
      heads = λ k at bytes may. ap read_head (only k bytes may) ∙ is.heads k at;
      order = in_order-first (run_layout shape) start number blocks.some place low;
      kept = record { boundary = refl; from = omega arith; up_to = omega arith; place = inr refl };
      blocks = λ b in_round bytes may. subst (λ (x : List ℕ). IsBlockPlace start [] start start b x) (sym (only (sector_of (run_layout shape) b) bytes may)) (is.blocks b in_round);
      tail_blocks = λ k at bytes may. subst (λ (x : List ℕ). IsTail start [] start (start - 12) x) (sym (only k bytes may)) (is.tail_blocks k at);
      kept_tail = λ bytes may. inl (omega arith);
      checkpoint = λ bytes may. ap (read_checkpoint (place_of number) (run_layout shape)) (only (place_of number) bytes may) ∙ is.checkpoint;
      beside = λ bytes may. subst (λ (x : List ℕ). IsBeside marks (read_checkpoint (other_place number) (run_layout shape) x)) (sym (only (other_place number) bytes may)) is.beside;
    }

pub fresh-live : (shape : Shape) (start number : ℕ) (disk : Disk) → HasBlocks (run_layout shape) → start % 512 ≡ 12 → FIRST_DATA_LSN ≤ start
    → IsFresh shape start number disk → IsLive shape start [] (first_marks start number) (first_tails start) disk
fresh-live shape start number disk blocks place low fresh =
    let is : IsWritten shape start [] (first_marks start number) (first_tails start) disk = fresh-written shape start number disk place fresh in
    record {
      holds = subst (λ (d : Disk). LogHoldsWith shape start [] (first_marks start number) (first_tails start) d) (sym fresh.nothing_pending)
          (fresh-holds shape start number disk blocks place low is);
      is_written = is;
    }
