-- What restoring answers of an archive device, step by step.
use Rattle.std.specs.Prelude.{ℕ, ◌≡◌, ◌≤◌, ◌<◌, ◌⊎◌, List, Option, Some, None, Result, Ok, Err, IfSome, ⊤}
use Rattle.model_base.specs.{IsWithinLimits}
use Rattle.model_base.specs.declared.limits.TheConstants.{LSN_LIMIT}
use Rattle.model_base.specs.declared.shape.Shape.{Shape}
use Rattle.model_device.specs.{Disk}
use Rattle.model_log.specs.declared.block.BlockView.{BlockView}
use Rattle.model_log.specs.{header_block, IsDataLsn, IsFront, length_at, read_block}
use Rattle.model_page.specs.declared.content.Content.{Content}
use Rattle.model_archive.specs.{IsMissing, archived_bytes, block_count, HasBadRecord, HasLongBlocks, IsFirstShort, IsFirstUnsound, IsRunStart, newest_mark, read_archive_head, RefusesRestore}
use Rattle.model_archive.specs.declared.extent.Extent.{Extent}
use Rattle.model_archive.specs.declared.refusal.RestoreRefusal.{RestoreRefusal}
use Rattle.model_archive.specs.declared.refusal.RestoreRefusal.TheVariants as refusal
use Rattle.redo_archive.specs.Grouped.{Aim, IsApplied}
use Rattle.redo_archive.specs.declared.restored.Restored.{Restored}
use Rattle.redo_archive.specs.declared.restored.RestoreFault.{RestoreFault}
use Rattle.redo_archive.specs.declared.restored.RestoreFault.TheVariants.{Missing, To, Page, Block, Record, Dev, NoMemory}
use Rattle.redo_disk.specs.declared.error.DevError.{DevError}
use Rattle.redo_disk.specs.declared.error.DevError.TheVariants as device
use Rattle.redo_recover.specs.Devices.{OnContent}

-- the cause for which nothing is restored, unless the device failed or memory ran out
abbrev pub restore_refusal : RestoreFault → Option RestoreRefusal
restore_refusal Missing = Some refusal.Missing
restore_refusal (To lsn) = Some (refusal.To lsn)
restore_refusal (Page p) = Some (refusal.Page p)
restore_refusal (Block lsn) = Some (refusal.Block lsn)
restore_refusal (Record lsn) = Some (refusal.Record lsn)
restore_refusal Dev = None
restore_refusal NoMemory = None

-- a fault that names a cause has it, where the device tells
abbrev pub HasRestoreCause : Option Disk → ℕ → RestoreFault → Type 0
HasRestoreCause told lsn fault = IfSome (restore_refusal fault)
    (λ cause. OnContent told (λ image. RefusesRestore image lsn cause))

-- the fault of a program whose archive device answered this
abbrev pub restore_fault : DevError → RestoreFault
restore_fault device.Failed = Dev
restore_fault device.NoMemory = NoMemory

-- the error that the device may have answered where this is the fault
abbrev pub device_error : RestoreFault → Option DevError
device_error Dev = Some device.Failed
device_error NoMemory = Some device.NoMemory
device_error fault = None

abbrev pub device_error_of : {T : Type 0} → Result T RestoreFault → Option DevError
device_error_of (Ok value) = None
device_error_of (Err fault) = device_error fault

-- what holds of what a head and marks name that pass
pub record IsSoundExtent (extent : Extent) : Type 0 where
  pub limits : IsWithinLimits extent.shape
  pub run_start : IsRunStart extent.start
  pub place : IsDataLsn extent.mark
  pub from : extent.start ≤ extent.mark
  pub small : extent.mark < LSN_LIMIT

-- the head and the newest mark name this
pub record NamesExtent (image : List ℕ) (extent : Extent) : Type 0 where
  pub head : read_archive_head (header_block 0 image) ≡ Some (extent.start, extent.shape)
  pub number : ℕ
  pub newest : newest_mark extent.start image ≡ Some (number, extent.mark)

-- the head doesn't pass, or no mark does
abbrev pub NamesNone : List ℕ → Type 0
NamesNone image =
    (read_archive_head (header_block 0 image) ≡ None)
    ⊎ ((start : ℕ) × (shape : Shape) × (read_archive_head (header_block 0 image) ≡ Some (start, shape))
    × (newest_mark start image ≡ None))

-- why no extent is read: there is no archive, where the device tells; the device failed, or has no memory
abbrev pub IsExtentFault : Option Disk → RestoreFault → Type 0
IsExtentFault told Missing = OnContent told IsMissing
IsExtentFault told Dev = ⊤
IsExtentFault told NoMemory = ⊤
IsExtentFault told fault = ⊥

-- why the archived pages aren't read: the first that doesn't pass, where the device tells; the device failed, or memory
-- ran out
abbrev pub IsBaseFault : Shape → Option Disk → RestoreFault → Type 0
IsBaseFault shape told (Page p) = OnContent told (λ image. IsFirstUnsound shape image p)
IsBaseFault shape told Dev = ⊤
IsBaseFault shape told NoMemory = ⊤
IsBaseFault shape told fault = ⊥

-- the 512 bytes are no block of the lsn that is long enough for the mark
abbrev pub IsNoBlock : ℕ → ℕ → List ℕ → Type 0
IsNoBlock mark b bytes = (view : BlockView) → read_block b bytes ≡ Some view → length_at mark b ≤ view.length → ⊥

-- the aim of restoring these pages for the lsn
abbrev pub aim_of : Extent → ℕ → List Content → Aim
aim_of extent lsn pages = record { shape = extent.shape; start = extent.start; lsn = lsn; pages = pages }

-- all blocks hold what they have to, and this is restored by the groups in them that end at or below the lsn
pub record IsRestoredBy (extent : Extent) (lsn : ℕ) (pages : List Content) (restored : Restored)
    (image : List ℕ) : Type 0 where
  pub blocks : HasLongBlocks extent image (block_count extent)
  pub at : ℕ
  pub rest : List ℕ
  pub applied : IsApplied (aim_of extent lsn pages) (archived_bytes extent image) at rest restored
  pub front : IsFront rest

-- why the groups in the blocks aren't applied: the first block that doesn't hold what it has to, or else where the
-- groups break, where the device tells; the device failed, or memory ran out
abbrev pub IsBlocksFault : Extent → Option Disk → RestoreFault → Type 0
IsBlocksFault extent told (Block l) = OnContent told (λ image. IsFirstShort extent image l)
IsBlocksFault extent told (Record l) =
    OnContent told (λ image. HasLongBlocks extent image (block_count extent) × HasBadRecord image extent l)
IsBlocksFault extent told Dev = ⊤
IsBlocksFault extent told NoMemory = ⊤
IsBlocksFault extent told fault = ⊥
