-- The whole contents that one sector of a device may hold after a crash; torn, it may hold other bytes as well. And writes
-- that lie within a device, or that may have failed.
use Rattle.std.specs.Prelude.{ℕ, ◌≡◌, ◌⊎◌, List, length, ◌-◌, ◌*◌, [], ◌∷◌, take, drop, All}
use Rattle.model_device.specs.Disks.{Disk, sector, Covers, IsWithin, FailsWrite, written}
use Rattle.model_device.specs.declared.write.Write.{Write}
use Rattle.model_base.specs.declared.limits.TheConstants.{BLOCK_SIZE}

-- what a write that covers the sector puts there
abbrev pub written_sector : Write → ℕ → List ℕ
written_sector write k = take BLOCK_SIZE (drop (BLOCK_SIZE * k - write.at) write.bytes)

-- one of the writes puts these bytes into the sector
abbrev pub IsWrittenBy : List Write → ℕ → List ℕ → Type 0
IsWrittenBy [] k bytes = ⊥
IsWrittenBy (write ∷ writes) k bytes = (Covers write k × (bytes ≡ written_sector write k)) ⊎ IsWrittenBy writes k bytes

-- what stood there at the last good sync, or what a write since put there
abbrev pub MayHold : Disk → ℕ → List ℕ → Type 0
MayHold disk k bytes = (bytes ≡ sector k disk.base) ⊎ IsWrittenBy disk.writes k bytes

-- Each sector may hold what it may have held before, or what the write puts there, and no more.
pub record Adds (write : Write) (old new : Disk) : Type 0 where
  pub same_length : length new.base ≡ length old.base
  pub each : (k : ℕ) (bytes : List ℕ) → MayHold new k bytes → MayHold old k bytes ⊎ (Covers write k × (bytes ≡ written_sector write k))

-- each write lies within so many bytes
abbrev pub AreWithin : ℕ → List Write → Type 0
AreWithin size writes = All (IsWithin size) writes

-- a write with a sync after it, one of which failed: the write did, or it is pending
abbrev pub IsPutOrNot : Write → Disk → Disk → Type 0
IsPutOrNot write old new = FailsWrite write old new ⊎ (new ≡ written old write)
