-- A device before it is opened or formatted.
-- What opening a store needs, and what it leaves to be read wherever it ends.
-- A store that is opened again, after a crash in opening.
use Rattle.std.specs.Prelude.{length, ℕ, ◌≡◌, ◌≤◌, ◌<◌, ◌+◌, ◌-◌, ◌⊎◌, List, [], ◌^◌}
use Rattle.model_device.specs.{AreSectorWrites, HasOneImage, IsImage, Disk}
use Rattle.model_base.specs.{run_shape}
use Rattle.model_log.specs.{layout_of, start_after}
use Rattle.model_log.specs.declared.head.Format.{Format}
use Rattle.model_log.specs.declared.head.Format.TheVariants.{One, Two, Three}
use Rattle.model_log.specs.declared.layout.Layout.{Layout}
use Rattle.model_log.specs.declared.layout.TheConstants.{BLOCK_HEADER}
use Rattle.model_store.specs.{HasOldCopies, IsFair, IsFairLog, IsOrderly, IsReading, Reading}
use Rattle.model_base.specs.declared.limits.TheConstants.{LSN_LIMIT}

-- the device has one image, and reads give it; what was written since the last sync is whole sectors
pub record IsAtRest (disk : Disk) : Type 0 where
  pub one_image : HasOneImage disk disk.reads
  pub reads : IsImage disk disk.reads
  pub sectors : AreSectorWrites (length disk.base) disk.writes

-- Both devices are at rest, and the store on them is in order and is read as this.
pub record IsOpenable (opened : Reading) (log_disk data_disk : Disk) : Type 0 where
  pub log_rests : IsAtRest log_disk
  pub data_rests : IsAtRest data_disk
  pub orderly : IsOrderly log_disk.reads data_disk.reads opened

-- where the run starts after the opened log, and the checkpoint before it
abbrev pub start_of : Reading → ℕ
start_of opened = start_after opened.end

abbrev pub start_block : Reading → ℕ
start_block opened = start_of opened - BLOCK_HEADER

-- how many checkpoints opening makes: by format 1 it makes one, and then one of format 2
abbrev pub numbers_taken : Format → ℕ
numbers_taken One = 2
numbers_taken Two = 1
numbers_taken Three = 1

-- the layout by which the store was found
abbrev pub found_layout : Reading → Layout
found_layout opened = layout_of opened.format opened.shape

-- The log is read as it was, from the checkpoint that was the newest.
pub record IsSameLog (opened reading : Reading) : Type 0 where
  pub format : reading.format ≡ opened.format
  pub number : reading.number ≡ opened.number
  pub ckpt : reading.ckpt ≡ opened.ckpt
  pub wholes : reading.wholes ≡ opened.wholes
  pub end : reading.end ≡ opened.end

-- The log is read from a checkpoint of opening, which stands where the run starts, and there is no group from there on.
pub record IsNextLog (opened reading : Reading) : Type 0 where
  pub later : opened.number < reading.number
  pub up_to : reading.number ≤ opened.number + numbers_taken opened.format
  pub ckpt : reading.ckpt ≡ start_block opened
  pub wholes : reading.wholes ≡ []
  pub end : reading.end ≡ start_of opened

-- The bytes of the two devices are read with the opened pages, by the shape that was found or that of a run, and no copy in
-- a slot is ahead of its page, so that they may be opened again.
pub record ReadsOpened (opened : Reading) (log_bytes data_bytes : List ℕ) : Type 0 where
  pub reading : Reading
  pub is_read : IsReading log_bytes data_bytes reading
  pub old_copies : HasOldCopies data_bytes reading
  pub shape : run_shape reading.shape ≡ run_shape opened.shape
  pub pages : reading.pages ≡ opened.pages
  pub log : IsSameLog opened reading ⊎ IsNextLog opened reading

-- OPENING KEEPS THE PAGES: whatever a crash leaves of the two devices that is fair is read with the opened pages.
abbrev pub KeepsOpened : Reading → Disk → Disk → Type 0
KeepsOpened opened log_disk data_disk =
    (log_bytes data_bytes : List ℕ) → IsFairLog log_disk log_bytes → IsFair opened.shape data_disk data_bytes
    → ReadsOpened opened log_bytes data_bytes

-- the checkpoints have room for those of opening
pub record HasRoom (opened : Reading) : Type 0 where
  pub numbers_left : opened.number + numbers_taken opened.format < 2 ^ 63
  pub lsns_left : opened.ckpt < LSN_LIMIT - 2 ^ 30
  pub start_left : start_block opened < LSN_LIMIT - 2 ^ 30

-- the two devices may be opened, with the pages of before
pub record OpensAgain (opened : Reading) (log_disk data_disk : Disk) : Type 0 where
  pub reading : Reading
  pub openable : IsOpenable reading log_disk data_disk
  pub shape : run_shape reading.shape ≡ run_shape opened.shape
  pub pages : reading.pages ≡ opened.pages
