-- A device is a row of sectors of 512 bytes. What it means is plain data: what stood there at the last good sync, the
-- writes since, and what reads give. An image is what a crash may leave: a sector that one of the writes since covers may
-- hold any bytes, and each other one holds what stood there at the sync.
-- What the calls of a device do to what it means: a relation between before and after for each answer.
use Rattle.std.specs.Prelude.{ℕ, ◌≡◌, ◌≤◌, ◌<◌, ◌+◌, ◌*◌, ◌⊎◌, List, [], ◌∷◌, length, take, drop, fold, ◌%◌, All, ◌++◌}
use Rattle.model_base.specs.{overwritten}
use Rattle.model_base.specs.declared.limits.TheConstants.{BLOCK_SIZE}
use Rattle.model_device.specs.declared.write.Write.{Write}

-- what a device means
pub record Disk : Type 0 where
  -- what stood there at the last good sync
  pub base : List ℕ
  -- the writes since, in order; one that failed is among them or not
  pub writes : List Write
  -- what reads give
  pub reads : List ℕ

abbrev pub sector : ℕ → List ℕ → List ℕ
sector k bytes = take BLOCK_SIZE (drop (BLOCK_SIZE * k) bytes)

pub record Covers (write : Write) (k : ℕ) : Type 0 where
  pub from : write.at ≤ BLOCK_SIZE * k
  pub up_to : BLOCK_SIZE * k + BLOCK_SIZE ≤ write.at + length write.bytes

-- one of the writes covers the sector
abbrev pub IsCovered : List Write → ℕ → Type 0
IsCovered [] k = ⊥
IsCovered (write ∷ writes) k = Covers write k ⊎ IsCovered writes k

-- An image: each sector holds what it held at the last good sync, or one of the writes since covers it.
pub record IsImage (disk : Disk) (image : List ℕ) : Type 0 where
  pub same_length : length image ≡ length disk.base
  pub each : (k : ℕ) → BLOCK_SIZE * k < length disk.base →
      (sector k image ≡ sector k disk.base) ⊎ IsCovered disk.writes k

-- the bytes after a write is applied whole
abbrev pub after_write : List ℕ → Write → List ℕ
after_write bytes write = overwritten write.at write.bytes bytes

-- the bytes after these writes are applied whole, in order
abbrev pub after_writes : List ℕ → List Write → List ℕ
after_writes bytes writes = fold after_write bytes writes

-- a device that holds this and has no write since
abbrev pub settled : List ℕ → Disk
settled bytes = record { base = bytes; writes = []; reads = bytes }

-- the device has one image, and this is it
abbrev pub HasOneImage : Disk → List ℕ → Type 0
HasOneImage disk bytes = (image : List ℕ) → IsImage disk image → image ≡ bytes

abbrev pub IsWithin : ℕ → Write → Type 0
IsWithin size write = write.at + length write.bytes ≤ size

-- the write is of whole sectors, and lies within so many bytes
pub record IsSectorWrite (size : ℕ) (write : Write) : Type 0 where
  pub aligned : write.at % BLOCK_SIZE ≡ 0
  pub whole : length write.bytes % BLOCK_SIZE ≡ 0
  pub within : IsWithin size write

-- each write is of whole sectors, and lies within so many bytes
abbrev pub AreSectorWrites : ℕ → List Write → Type 0
AreSectorWrites size writes = All (IsSectorWrite size) writes

-- The device is a row of whole sectors, its writes are of whole sectors on it, and reads give an image.
pub record IsValid (disk : Disk) : Type 0 where
  pub whole_sectors : length disk.base % BLOCK_SIZE ≡ 0
  pub writes : AreSectorWrites (length disk.base) disk.writes
  pub reads : IsImage disk disk.reads

-- a write that answered Ok is pending, and reads give its bytes
abbrev pub written : Disk → Write → Disk
written old write = record { base = old.base; writes = old.writes ++ write ∷ []; reads = after_write old.reads write }

-- Each sector that the write doesn't cover is as it was.
pub record IsSameBeside (write : Write) (old new : List ℕ) : Type 0 where
  pub same_length : length new ≡ length old
  pub each : (k : ℕ) → (sector k new ≡ sector k old) ⊎ Covers write k

-- A write that answered an error: nothing came of it, or it is pending and reads give any bytes in the sectors that it
-- covers. Nothing changes elsewhere, and what earlier writes put there isn't undone.
pub record FailsWrite (write : Write) (old new : Disk) : Type 0 where
  pub base : new.base ≡ old.base
  pub pending : ((new.writes ≡ old.writes) × (new.reads ≡ old.reads))
      ⊎ ((new.writes ≡ old.writes ++ write ∷ []) × IsSameBeside write old.reads new.reads)

-- after a sync that answered Ok the device has one image, the one that reads give
abbrev pub synced : Disk → Disk
synced old = settled old.reads

-- a crash leaves one image, one of those before
pub record Crashes (old new : Disk) : Type 0 where
  pub image : List ℕ
  pub possible : IsImage old image
  pub left : new ≡ settled image
