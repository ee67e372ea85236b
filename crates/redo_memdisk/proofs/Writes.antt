-- A write that is done, or in part, when the call says that it failed.
use Rattle.std.proofs.Common.{ℕ, ◌+◌, ◌*◌, ◌≤◌, List, length, length-take, take, refl, inl, inr, ⊎_elim, arith}
use Rattle.std.proofs.lemmas.Bool.{cases_lt}
use Rattle.model_base.specs.{overwritten}
use Rattle.model_base.specs.declared.limits.TheConstants.{BLOCK_SIZE}
use Rattle.model_device.specs.{after_write, FailsWrite, IsSameBeside, IsSectorWrite, written, Disk}
use Rattle.model_device.specs.declared.write.Write.{Write}
use Rattle.model_device.proofs.Images.{sector-after_write}
use Rattle.model_device.proofs.Overwritten.{length-overwritten, part-overwritten_before, part-overwritten_behind}
use Rattle.redo_disk.specs.{HasSize, IsRange, write_at}

-- a write that is done whole changes the sectors that it covers
IsSameBeside-after_write : (write : Write) (old : List ℕ) → IsSectorWrite (length old) write
    → IsSameBeside write old (after_write old write)
IsSameBeside-after_write write old fits = record {
  same_length = length-overwritten write.at write.bytes old fits.within;
  each = λ k. ⊎_elim (λ covered. inr covered.0) (λ apart. inl apart) (sector-after_write old write k fits);
}

pub FailsWrite-written : (size at : ℕ) (bytes : List ℕ) (disk : Disk) → IsRange size at (length bytes) → HasSize size disk
    → FailsWrite (write_at at bytes) disk (written disk (write_at at bytes))
FailsWrite-written size at bytes disk range sized = record {
  base = refl;
  pending = inr (
    refl,
    IsSameBeside-after_write (write_at at bytes) disk.reads (record {
      aligned = range.from_sector;
      whole = range.whole_sectors;
      within = omega (arith, range.within, sized.reads);
    }),
  );
}

-- what is written of its first bytes alone changes none but the sectors that it covers
pub IsSameBeside-cut : (taken : ℕ) (write : Write) (old : List ℕ) → IsSectorWrite (length old) write
    → IsSameBeside write old (overwritten write.at (take taken write.bytes) old)
IsSameBeside-cut taken write old fits =
    let first : List ℕ = take taken write.bytes in
    let short : length first ≤ length write.bytes = omega (arith, length-take taken write.bytes) in
    let within : write.at + length first ≤ length old = omega (arith, short, fits.within) in
    record {
      same_length = length-overwritten write.at first old within;
      each = λ k.
          let from : ℕ = BLOCK_SIZE * k in
          elim (cases_lt from write.at) [
            | inl before ↦
                let ends : from + BLOCK_SIZE ≤ write.at = omega (arith, fits.aligned) in
                inl (part-overwritten_before BLOCK_SIZE from write.at first old ends within)
            | inr after ↦ elim (cases_lt from (write.at + length write.bytes)) [
              | inl inside ↦ inr (record { from = after; up_to = omega (arith, fits.aligned, fits.whole) })
              | inr past ↦
                  let begins : write.at + length first ≤ from = omega (arith, short) in
                  inl (part-overwritten_behind BLOCK_SIZE from write.at first old begins within)
            ]
          ];
    }
