-- Which images of a device count as fair. A crash can tear a sector, and a page of several sectors, and the checksum is
-- taken to tell: a block of the log whose checksum fits, and a page that passes its check, hold one of the whole contents
-- that they had.
use Rattle.std.specs.Prelude.{ℕ, ◌≡◌, ◌≢◌, ◌≤◌, ◌<◌, ◌+◌, ◌*◌, true, List, length, take}
use Rattle.model_base.specs.declared.shape.Shape.{Shape}
use Rattle.model_base.specs.declared.limits.TheConstants.{BLOCK_SIZE}
use Rattle.model_device.specs.{after_writes, IsImage, sector, Disk}
use Rattle.model_log.specs.{fits_checksum}
use Rattle.model_page.specs.{page_check, stretch_at}
use Rattle.model_page.specs.declared.page.PageState.TheVariants.{Broken}

-- the stretch of a slot or a place holds the bytes that it has once the first so many writes are applied whole
pub record IsWholeContent (shape : Shape) (disk : Disk) (n : ℕ) (bytes : List ℕ) : Type 0 where
  pub count : ℕ
  pub some : count ≤ length disk.writes
  pub same : bytes ≡ stretch_at shape n (after_writes disk.base (take count disk.writes))

-- A fair image of a data device: each slot and each place that isn't broken in it holds one of its whole contents since the last sync.
pub record IsFair (shape : Shape) (disk : Disk) (image : List ℕ) : Type 0 where
  pub possible : IsImage disk image
  pub each : (n : ℕ) → n < shape.slots + shape.pages → page_check (stretch_at shape n image) ≢ Broken
      → IsWholeContent shape disk n (stretch_at shape n image)

-- the sector holds the bytes that it has once the first so many writes are applied whole
pub record IsWholeSector (disk : Disk) (k : ℕ) (bytes : List ℕ) : Type 0 where
  pub count : ℕ
  pub some : count ≤ length disk.writes
  pub same : bytes ≡ sector k (after_writes disk.base (take count disk.writes))

-- A fair image of a log device: each block whose checksum fits holds one of its whole contents since the last sync.
pub record IsFairLog (disk : Disk) (image : List ℕ) : Type 0 where
  pub possible : IsImage disk image
  pub each : (k : ℕ) → BLOCK_SIZE * k < length disk.base → fits_checksum (sector k image) ≡ true
      → IsWholeSector disk k (sector k image)
