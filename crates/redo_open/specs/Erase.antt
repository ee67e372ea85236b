-- A stretch of a device while it is filled with zeros.
use Rattle.std.specs.Prelude.{ℕ, ◌≡◌, ◌≤◌, ◌<◌, ◌*◌, ◌⊎◌, List, length}
use Rattle.model_base.specs.declared.limits.TheConstants.{BLOCK_SIZE}
use Rattle.model_device.specs.{AreSectorWrites, IsCovered, sector, settled, Disk}
use Rattle.model_parts.specs.{IsErasing, IsUnsealed, MayStand, zero_block}
use Rattle.model_store.specs.{IsFairLog}

-- the sector is one of those from the one offset up to the other
pub record IsIn (from end k : ℕ) : Type 0 where
  pub low : from ≤ BLOCK_SIZE * k
  pub high : BLOCK_SIZE * k < end

-- the device has at least so many bytes
pub record Reaches (end : ℕ) (disk : Disk) : Type 0 where
  pub base : end ≤ length disk.base
  pub reads : end ≤ length disk.reads

-- In a sector of a fair image may stand what might have stood there before, or, in one of the stretch, bytes of which
-- nothing is read. What stood there at the last good sync is as it was, no write covers another sector that none
-- covered
-- before, and where all writes were of whole sectors they still are.
pub record Erases (from end : ℕ) (old new : Disk) : Type 0 where
  pub base : new.base ≡ old.base
  pub same_length : length new.reads ≡ length old.reads
  pub sectors : AreSectorWrites (length old.base) old.writes → AreSectorWrites (length new.base) new.writes
  pub covered : (k : ℕ) → IsCovered new.writes k → IsCovered old.writes k ⊎ IsIn from end k
  pub each : (k : ℕ) (bytes : List ℕ) → MayStand new k bytes → MayStand old k bytes ⊎ (IsIn from end k × IsUnsealed bytes)

-- And reads give zeros there, and else what they gave.
pub record HasErased (from end : ℕ) (old new : Disk) : Type 0 where
  pub erases : Erases from end old new
  pub zeros : (k : ℕ) → IsIn from end k → sector k new.reads ≡ zero_block
  pub others : (k : ℕ) → (IsIn from end k → ⊥) → sector k new.reads ≡ sector k old.reads

-- in each fair image of the device the stretch is being erased
abbrev pub ErasesIn : ℕ → ℕ → List ℕ → Disk → Type 0
ErasesIn from end content disk = (image : List ℕ) → IsFairLog disk image → IsErasing (IsIn from end) content image

-- nothing is pending, the stretch is zeros, and each other sector is as it was
pub record HasZeros (from end : ℕ) (content : List ℕ) (disk : Disk) : Type 0 where
  pub nothing_pending : disk ≡ settled disk.base
  pub same_length : length disk.base ≡ length content
  pub zeros : (k : ℕ) → IsIn from end k → sector k disk.base ≡ zero_block
  pub others : (k : ℕ) → (IsIn from end k → ⊥) → sector k disk.base ≡ sector k content
