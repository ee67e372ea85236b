-- Clearing away the blocks of a log outside the kept range, one piece after another.
use Rattle.std.proofs.Common.{◌≡◌, ◌≤◌, ◌<◌, ◌+◌, ◌-◌, ◌*◌, ◌/◌, ◌%◌, ◌⊎◌, ℕ, inl, inr, length, Option, sym, ap, ◌∙◌, ⊎_elim, arith}
use Rattle.std.specs.Prelude.{replicate, Result, Ok, Err}
use Rattle.std.proofs.lemmas.Bool.{cases_lt}
use Rattle.std.proofs.lemmas.Result.{on_ok_weaker}
use Rattle.model_base.specs.declared.limits.TheConstants.{START_LSN}
use Rattle.model_device.specs.{Covers, Disk}
use Rattle.model_log.specs.{block_of, place_in, round_of, sector_of}
use Rattle.model_log.specs.declared.layout.Layout.{Layout}
use Rattle.model_log.proofs.Places.{place-on, sector-place}
use Rattle.model_parts.specs.{IsOutside, IsPastKept, IsStaleTail}
use Rattle.model_store.specs.declared.tail.Tail.{Tail}
use Rattle.redo_disk.specs.{Seen}
use Rattle.redo_disk.specs.declared.error.DevError.{DevError}
use Rattle.redo_disk.proofs.Told.{OnTold-then, told-as}
use Rattle.redo_open.specs.Clear.{ClearsLog, ClearStep, HasClearedLog, IsPiece, IsRingTo, MayStart, ring_end}
use Rattle.redo_open.specs.Put.{IsAtRestTo}
use Rattle.redo_open.specs.Zeroing.{ErasesLog, EraseStep, HasErasedLog}
use Rattle.redo_open.proofs.Rows.{length-zeros}
use Rattle.redo_open.proofs.Told.{cause-since}
use Rattle.redo_open.proofs.Zeroing.{zeros_write}

-- A PIECE OF THE RING.

-- a sector that it covers is the place of a block outside the kept range
pub piece-of : (layout : Layout) (ckpt start at count k : ℕ) → MayStart layout ckpt start → IsPiece layout ckpt start at count
    → Covers (zeros_write (place_in layout at) count) k → IsRingTo layout ckpt start (at + count) k
piece-of layout ckpt start at count k may piece covers =
    let place : ℕ = place_in layout at in
    let long : length (replicate {A = ℕ} count 0) ≡ count = length-zeros count in
    let at_aligned : at % 512 ≡ 0 = piece.aligned in
    let place_is : 512 * sector_of layout at ≡ place = sector-place layout at in
    let from : place ≤ 512 * k = covers.from in
    let up_to : 512 * k + 512 ≤ place + count = omega (arith, covers.up_to) in
    let i : ℕ = k - sector_of layout at in
    let whole : count % 512 ≡ 0 = piece.whole in
    let low : block_of start ≤ at = piece.from in
    let start_place : start % 512 ≡ 12 = may.place in
    let start_low : ckpt + 12 ≤ start = may.from in
    let started : START_LSN ≤ ckpt = may.started in
    let within : at + count ≤ ckpt + round_of layout = piece.within in
    let side : place + 512 * (count / 512) ≤ ring_end layout = omega (arith, piece.side_by_side) in
    let there : place_in layout (at + 512 * i) ≡ place + 512 * i = place-on layout at i (count / 512) at_aligned (omega arith) (omega arith) side in
    let b : ℕ = at + 512 * i in
    let b_is : 512 * sector_of layout b ≡ place_in layout b = sector-place layout b in (
      b,
      record { in_round = record { aligned = omega arith; from = omega (arith, may.aligned); below = omega arith }; from = omega arith },
      omega arith,
      omega arith,
    )

-- and the place of each block of the piece is covered
pub piece-covers : (layout : Layout) (ckpt start at count b k : ℕ) → MayStart layout ckpt start → IsPiece layout ckpt start at count → IsOutside layout ckpt start b
    → at ≤ b → b < at + count → k ≡ sector_of layout b → Covers (zeros_write (place_in layout at) count) k
piece-covers layout ckpt start at count b k may piece outside from below is =
    let place : ℕ = place_in layout at in
    let long : length (replicate {A = ℕ} count 0) ≡ count = length-zeros count in
    let at_aligned : at % 512 ≡ 0 = piece.aligned in
    let b_aligned : b % 512 ≡ 0 = outside.in_round.aligned in
    let whole : count % 512 ≡ 0 = piece.whole in
    let low : block_of start ≤ at = piece.from in
    let start_place : start % 512 ≡ 12 = may.place in
    let start_low : ckpt + 12 ≤ start = may.from in
    let started : START_LSN ≤ ckpt = may.started in
    let i : ℕ = (b - at) / 512 in
    let b_is : at + 512 * i ≡ b = omega arith in
    let side : place + 512 * (count / 512) ≤ ring_end layout = omega (arith, piece.side_by_side) in
    let there : place_in layout (at + 512 * i) ≡ place + 512 * i = place-on layout at i (count / 512) at_aligned (omega arith) (omega arith) side in
    let b_there : place_in layout b ≡ place + 512 * i = ap (place_in layout) (sym b_is) ∙ there in
    let b_place : 512 * sector_of layout b ≡ place_in layout b = sector-place layout b in
    record { from = omega arith; up_to = omega arith }

-- so the blocks up to the end of the piece are those up to its start, and its own
pub ring-more : (layout : Layout) (ckpt start at count k : ℕ) → MayStart layout ckpt start → IsPiece layout ckpt start at count
    → IsRingTo layout ckpt start at k ⊎ Covers (zeros_write (place_in layout at) count) k → IsRingTo layout ckpt start (at + count) k
ring-more layout ckpt start at count k may piece is =
    ⊎_elim (λ before. (before.0, before.1, omega (arith, before.2), before.3)) (λ here. piece-of layout ckpt start at count k may piece here) is

pub ring-less : (layout : Layout) (ckpt start at count k : ℕ) → MayStart layout ckpt start → IsPiece layout ckpt start at count
    → IsRingTo layout ckpt start (at + count) k → IsRingTo layout ckpt start at k ⊎ Covers (zeros_write (place_in layout at) count) k
ring-less layout ckpt start at count k may piece is =
    ⊎_elim (λ before. inl (is.0, is.1, before, is.3)) (λ from. inr (piece-covers layout ckpt start at count is.0 k may piece is.1 from is.2 is.3)) (cases_lt is.0 at)

-- below the start there is none
pub ring-none : (layout : Layout) (ckpt start k : ℕ) → IsRingTo layout ckpt start (block_of start) k → ⊥
ring-none layout ckpt start k is = omega (arith, is.1.from, is.2)

-- ONE SECTOR.

pub block-covers : (k j : ℕ) → j ≡ k → Covers (zeros_write (512 * k) 512) j
block-covers k j same = let long : length (replicate {A = ℕ} 512 0) ≡ 512 = length-zeros 512 in record { from = omega arith; up_to = omega arith }

pub covers-block : (k j : ℕ) → Covers (zeros_write (512 * k) 512) j → j ≡ k
covers-block k j covers = let long : length (replicate {A = ℕ} 512 0) ≡ 512 = length-zeros 512 in omega (arith, covers.from, covers.up_to)

pub place-covers : (layout : Layout) (b j : ℕ) → j ≡ sector_of layout b → Covers (zeros_write (place_in layout b) 512) j
place-covers layout b j same =
    let long : length (replicate {A = ℕ} 512 0) ≡ 512 = length-zeros 512 in
    let place : 512 * sector_of layout b ≡ place_in layout b = sector-place layout b in
    record { from = omega arith; up_to = omega arith }

pub covers-place : (layout : Layout) (b j : ℕ) → Covers (zeros_write (place_in layout b) 512) j → j ≡ sector_of layout b
covers-place layout b j covers =
    let long : length (replicate {A = ℕ} 512 0) ≡ 512 = length-zeros 512 in
    let place : 512 * sector_of layout b ≡ place_in layout b = sector-place layout b in
    omega (arith, covers.from, covers.up_to)

-- BOTH STAGES.

pub clear_failed : (layout : Layout) (ckpt start : ℕ) (tail : Option Tail) (old : Seen) (error : DevError) (new : Seen) → EraseStep (IsStaleTail layout tail) (ring_end layout) old (Err error) new
    → ClearStep layout ckpt start tail old (Err error) new
clear_failed layout ckpt start tail old error new step = record {
  keeps = told-as old.tells new.tells (λ before after. IsAtRestTo (ring_end layout) before → ErasesLog (IsStaleTail layout tail) before.reads after)
      (λ before after. IsAtRestTo (ring_end layout) before → ClearsLog layout ckpt start tail before.reads after) (λ before after is rests image fair. inl (is rests image fair)) step.keeps;
  ok = tt;
  size = step.size;
  cause = step.cause;
}

-- the first stage leaves the device at rest
rests-on : (end : ℕ) (Erased : ℕ → Type 0) (before after : Disk) → IsAtRestTo end before → HasErasedLog Erased before.reads after → IsAtRestTo end after
rests-on end Erased before after rests is = record { rests = is.rests; long = omega (arith, rests.long, is.erased.same_length) }

pub clear_both : (layout : Layout) (ckpt start : ℕ) (tail : Option Tail) (old mid : Seen) (done : Unit {0}) (result : Result (Unit {0}) DevError) (new : Seen)
    → EraseStep (IsStaleTail layout tail) (ring_end layout) old (Ok done) mid → EraseStep (IsPastKept layout ckpt start tail) (ring_end layout) mid result new
    → ClearStep layout ckpt start tail old result new
clear_both layout ckpt start tail old mid done result new first then =
    let end : ℕ = ring_end layout in
    let Stale : ℕ → Type 0 = IsStaleTail layout tail in
    let Past : ℕ → Type 0 = IsPastKept layout ckpt start tail in
    record {
      keeps = OnTold-then old.tells mid.tells new.tells (λ a b. IsAtRestTo end a → HasErasedLog Stale a.reads b) (λ b c. IsAtRestTo end b → ErasesLog Past b.reads c)
          (λ a c. IsAtRestTo end a → ClearsLog layout ckpt start tail a.reads c)
          (λ a b c erased erases rests image fair. inr (b.reads, (erased rests).erased, erases (rests-on end Stale a b rests (erased rests)) image fair)) first.ok then.keeps;
      ok = on_ok_weaker result
          (OnTold-then old.tells mid.tells new.tells (λ a b. IsAtRestTo end a → HasErasedLog Stale a.reads b) (λ b c. IsAtRestTo end b → HasErasedLog Past b.reads c)
          (λ a c. IsAtRestTo end a → HasClearedLog layout ckpt start tail a.reads c)
          (λ a b c erased past rests. (
          let second : HasErasedLog Past b.reads c = past (rests-on end Stale a b rests (erased rests)) in
          record { rests = second.rests; cleared = record { middle = b.reads; first = (erased rests).erased; then = second.erased } })) first.ok) then.ok;
      size = then.size ∙ first.size;
      cause = cause-since old.faults mid.faults new.faults result first.cause.later then.cause;
    }
