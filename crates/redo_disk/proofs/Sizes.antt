-- Calls keep the length of what a device means.
use Rattle.std.proofs.Common.{ℕ, List, length, ap, ◌∙◌, arith, ⊎_elim}
use Rattle.model_device.specs.{Disk, FailsWrite, written}
use Rattle.model_device.proofs.Overwritten.{length-overwritten}
use Rattle.redo_disk.specs.Sight.{write_at}
use Rattle.redo_disk.specs.Ranges.{HasSize, IsRange}

pub HasSize-written : (size at : ℕ) (bytes : List ℕ) (disk : Disk) → IsRange size at (length bytes) → HasSize size disk → HasSize size (written disk (write_at at bytes))
HasSize-written size at bytes disk range sized = record {
  base = sized.base;
  reads = length-overwritten at bytes disk.reads (omega (arith, range.within, sized.reads)) ∙ sized.reads;
}

pub HasSize-FailsWrite : (size at : ℕ) (bytes : List ℕ) (old new : Disk) → FailsWrite (write_at at bytes) old new → HasSize size old → HasSize size new
HasSize-FailsWrite size at bytes old new fails sized = record {
  base = ap length fails.base ∙ sized.base;
  reads = ⊎_elim (λ same. ap length same.1 ∙ sized.reads) (λ pending. pending.1.same_length ∙ sized.reads) fails.pending;
}
