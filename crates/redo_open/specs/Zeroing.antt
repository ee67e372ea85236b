-- Some sectors of a device while they are filled with zeros, by writes and a sync.
use Rattle.std.specs.Prelude.{ℕ, List, replicate, ◌≡◌, ◌≤◌, ◌⊎◌, length, Result, OnOk, OnErr}
use Rattle.model_device.specs.{AreSectorWrites, sector, Disk}
use Rattle.model_parts.specs.{IsAtRest, IsErased, IsErasing, IsUnsealed, MayStand}
use Rattle.model_store.specs.{IsFairLog}
use Rattle.redo_disk.specs.{HasCause, OnTold, Seen}
use Rattle.redo_disk.specs.declared.error.DevError.{DevError}
use Rattle.redo_open.specs.Put.{IsAtRestTo}

-- so many of them; a long row isn't to be written out, so no proof sees into it unasked
unfoldable pub zeros : ℕ → List ℕ
zeros count = replicate count 0

-- the device has at least so many bytes
pub record IsLongTo (end : ℕ) (disk : Disk) : Type 0 where
  pub base : end ≤ length disk.base
  pub reads : end ≤ length disk.reads

-- In a fair image a sector holds what it might have held before, or it is one of these, and nothing is read of it.
pub record Zeroes (Zeroed : ℕ → Type 0) (old new : Disk) : Type 0 where
  pub same_base : length new.base ≡ length old.base
  pub same_reads : length new.reads ≡ length old.reads
  pub sectors : AreSectorWrites (length old.base) old.writes → AreSectorWrites (length new.base) new.writes
  pub each : (k : ℕ) (bytes : List ℕ) → MayStand new k bytes → MayStand old k bytes ⊎ (Zeroed k × IsUnsealed bytes)

-- And so it is with what reads give, where all of them are gone.
pub record HasZeroed (Zeroed : ℕ → Type 0) (old new : Disk) : Type 0 where
  pub zeroes : Zeroes Zeroed old new
  pub reads : (k : ℕ) → (sector k new.reads ≡ sector k old.reads) ⊎ (Zeroed k × IsUnsealed (sector k new.reads))
  pub gone : (k : ℕ) → Zeroed k → IsUnsealed (sector k new.reads)

-- some writes of zeros, after which no sync has come yet
pub record ZeroStep (Zeroed : ℕ → Type 0) (end : ℕ) (old : Seen) (result : Result (Unit {0}) DevError) (new : Seen) : Type 0 where
  pub ok : OnOk result (OnTold old.tells new.tells (λ before after. IsLongTo end before → HasZeroed Zeroed before after))
  pub err : OnErr result (OnTold old.tells new.tells (λ before after. IsLongTo end before → Zeroes Zeroed before after))
  pub size : new.size ≡ old.size
  pub cause : HasCause old.faults new.faults result

-- in each fair image of the device these sectors are being erased
abbrev pub ErasesLog : (ℕ → Type 0) → List ℕ → Disk → Type 0
ErasesLog Erased content disk = (image : List ℕ) → IsFairLog disk image → IsErasing Erased content image

-- the device is at rest, and they are
pub record HasErasedLog (Erased : ℕ → Type 0) (content : List ℕ) (disk : Disk) : Type 0 where
  pub rests : IsAtRest disk
  pub erased : IsErased Erased content disk.reads

-- They are erased for good, on a device that is at rest.
pub record EraseStep (Erased : ℕ → Type 0) (end : ℕ) (old : Seen) (result : Result (Unit {0}) DevError) (new : Seen) : Type 0 where
  pub keeps : OnTold old.tells new.tells (λ before after. IsAtRestTo end before → ErasesLog Erased before.reads after)
  pub ok : OnOk result (OnTold old.tells new.tells (λ before after. IsAtRestTo end before → HasErasedLog Erased before.reads after))
  pub size : new.size ≡ old.size
  pub cause : HasCause old.faults new.faults result
