-- Ranges of a device, its size, and what a crash leaves of it.
use Rattle.std.specs.Prelude.{ℕ, ◌≡◌, ◌≤◌, ◌+◌, ◌%◌, length}
use Rattle.model_base.specs.declared.limits.TheConstants.{BLOCK_SIZE}
use Rattle.model_device.specs.{Disk, Crashes}
use Rattle.redo_disk.specs.Sight.{Seen, WhereTold}

-- a range of whole sectors within so many bytes
pub record IsRange (size at count : ℕ) : Type 0 where
  pub from_sector : at % BLOCK_SIZE ≡ 0
  pub whole_sectors : count % BLOCK_SIZE ≡ 0
  pub within : at + count ≤ size

-- what stood there at the last good sync and what reads give are so long
pub record HasSize (size : ℕ) (disk : Disk) : Type 0 where
  pub base : length disk.base ≡ size
  pub reads : length disk.reads ≡ size

-- A crash, and the start after it: where the device still tells, one of the images is left. What it meant before is told
-- as it was.
pub record CrashStep (old new : Seen) : Type 0 where
  pub left : WhereTold old.tells new.tells Crashes
  pub from : new.crashed_from ≡ old.tells
  pub size : new.size ≡ old.size
  pub later : old.faults ≤ new.faults
