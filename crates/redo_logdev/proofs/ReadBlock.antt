-- Where a part reads a block of the run, and that it is that block.
use Rattle.std.proofs.Common.{◌≡◌, ◌≤◌, ◌<◌, ◌+◌, ◌*◌, ◌∙◌, ℕ, List, take, drop, refl, sym, subst, ⊎_elim, arith}
use Rattle.std.proofs.lemmas.Bool.{cases_lt, le-leb, lt-leb}
use Rattle.model_device.specs.{sector, Disk}
use Rattle.model_log.specs.declared.group.Whole.{Whole}
use Rattle.model_log.specs.{block_of, IsBoundaryBlock, IsInRound, place_in, run_layout, sector_of}
use Rattle.model_log.proofs.Places.{sector-place}
use Rattle.model_parts.specs.{IsWritten}
use Rattle.redo_logdev.specs.Part.{Part, block_place}
use Rattle.redo_logdev.specs.Holding.{DiskHolds, HoldsBlock}
use Rattle.redo_logdev.specs.PartConditions.{IsSoundLogPart, MayRead}

module _ {L : Type 0} (part : Part L) (size room lsn : ℕ)
    (sound : IsSoundLogPart size part.shape part.marks part.tails room) (may : MayRead part lsn) where
  pub full-place : lsn < block_of part.marks.written → block_place part lsn ≡ place_in (run_layout part.shape) lsn
  full-place before =
      let full : lsn + 524 ≤ part.marks.written = omega (arith, sound.written_place, may.aligned, before) in
      rw (le-leb (lsn + 524) part.marks.written full) refl

  pub last-place : block_of part.marks.written ≤ lsn → block_place part lsn ≡ 512 * part.tails.newest
  last-place last =
      let short : part.marks.written < lsn + 524 = omega (arith, sound.written_place, may.aligned, last) in
      rw (lt-leb (lsn + 524) part.marks.written short) refl

  -- what reads give there is the run's block for the written mark
  pub read-there : HoldsBlock part lsn → (s : ℕ) (wholes : List Whole) (disk : Disk)
      → DiskHolds part.shape s wholes part.marks part.tails part.failed disk
      → IsBoundaryBlock s wholes part.marks.written lsn (take 512 (drop (block_place part lsn) disk.reads))
  read-there some s wholes disk before =
      let holds : IsWritten part.shape s wholes part.marks part.tails disk = before.live may.live in
      let m : ℕ = part.marks.written in
      let k : ℕ = sector_of (run_layout part.shape) lsn in
      let reaches : lsn + 12 < m = omega (arith, some.some, sound.stable_written) in
      let in_round : IsInRound (run_layout part.shape) part.marks.ckpt lsn = record {
        aligned = may.aligned;
        from = some.from;
        below = omega (arith, reaches, sound.room);
      } in
      let Is : ℕ → Type 0 = λ at. IsBoundaryBlock s wholes m lsn (take 512 (drop at disk.reads)) in
      ⊎_elim (λ full.
      let place : 512 * k ≡ block_place part lsn = sector-place (run_layout part.shape) lsn ∙ sym (full-place full) in
      ⊎_elim (λ block. subst Is place block.block)
      (λ not. absurd (omega (arith, full, sound.written_place, may.aligned, not.none_below)))
      (holds.blocks lsn in_round))
      (λ last.
      let same : block_of m ≡ lsn = omega (arith, sound.written_place, may.aligned, reaches, last) in
      let IsAt : ℕ → Type 0 = λ b. IsBoundaryBlock s wholes m b (sector part.tails.newest disk.reads) in
      ⊎_elim (λ none. absurd (omega (arith, none, same, reaches)))
      (λ tail. subst Is (sym (last-place last)) (subst IsAt same tail.block)) holds.newest_tail)
      (cases_lt lsn (block_of m))
