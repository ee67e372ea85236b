-- A file that no call has reached.
use Rattle.std.proofs.Common.{ℕ, ◌%◌, List, ap, arith}
use Rattle.model_base.specs.declared.limits.TheConstants.{BLOCK_SIZE}
use Rattle.model_device.proofs.Images.{settled_images}
use Rattle.model_device.proofs.Valid.{IsValid-settled}
use Rattle.redo_memdisk.proofs.Filed.{length-filled}
use Rattle.redo_memdisk.specs.Notes.{Note, filled, replay}
use Rattle.redo_memdisk.specs.declared.file.FileDisk.{FileDisk}
use Rattle.redo_memdisk.specs.declared.file.TheConstants.{FILE_DISK_LEN}
use Rattle.redo_lab.specs.Files.{IsAtRestWith, IsUncalled}

pub uncalled-rests : {R S F D : Type 0} (bytes : List ℕ) (device : FileDisk R S F D) → IsUncalled device
    → IsAtRestWith bytes device
uncalled-rests bytes device uncalled = record {
  means = ap (λ (notes : List Note). replay (filled FILE_DISK_LEN bytes) notes) uncalled.notes;
  settled_at_entry = record {
    valid = IsValid-settled (filled FILE_DISK_LEN bytes) (ap (λ n. n % BLOCK_SIZE) (length-filled FILE_DISK_LEN bytes));
    one_image = (settled_images (filled FILE_DISK_LEN bytes)).1;
    can_count = omega (arith, uncalled.faults);
  };
}
