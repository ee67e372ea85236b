-- The log device and the data device while a store is formatted, step by step.
use Rattle.std.specs.Prelude.{ℕ, ◌≡◌, ◌≤◌, ◌<◌, ◌*◌, ◌⊎◌, List, length}
use Rattle.model_base.specs.declared.limits.TheConstants.{BLOCK_SIZE}
use Rattle.model_base.specs.declared.shape.Shape.{Shape}
use Rattle.model_device.specs.{sector, settled, Disk}
use Rattle.model_log.specs.{log_device_length}
use Rattle.model_log.specs.declared.layout.TheConstants.{HEADER_BYTES}
use Rattle.model_parts.specs.{formatted_store, IsFormattedData, IsFormattedLog, IsUnsealed, KeepsHead, zero_block}
use Rattle.model_store.specs.{IsFairLog, IsOrderly}

-- the bytes have room for a header, and none is read of either header block
pub record HasNoHead (bytes : List ℕ) : Type 0 where
  pub long : HEADER_BYTES ≤ length bytes
  pub first : IsUnsealed (sector 0 bytes)
  pub second : IsUnsealed (sector 2 bytes)

-- the bytes are those that a crash might have left before, or that reads gave, but for a header block that isn't read
pub record IsStillLog (before : Disk) (bytes : List ℕ) : Type 0 where
  pub was : List ℕ
  pub log : IsFairLog before was ⊎ (was ≡ before.reads)
  pub kept : KeepsHead was bytes

-- each fair image is such a one of before, or no header is read of it
abbrev pub LosesHead : Disk → Disk → Type 0
LosesHead old new = (image : List ℕ) → IsFairLog new image → IsStillLog old image ⊎ HasNoHead image

-- no header is read of any fair image
abbrev pub IsHeadless : Disk → Type 0
IsHeadless disk = (image : List ℕ) → IsFairLog disk image → HasNoHead image

-- nothing is pending on the device, which has so many bytes, and no header is read
pub record LostHead (size : ℕ) (disk : Disk) : Type 0 where
  pub nothing_pending : disk ≡ settled disk.base
  pub sized : length disk.base ≡ size
  pub no_head : HasNoHead disk.base

-- nothing is pending, no header is read, and all blocks from block 3 on are zeros
pub record HasNoBlocks (shape : Shape) (disk : Disk) : Type 0 where
  pub nothing_pending : disk ≡ settled disk.base
  pub long : log_device_length shape ≤ length disk.base
  pub no_head : HasNoHead disk.base
  pub blocks : (k : ℕ) → 3 ≤ k → BLOCK_SIZE * k < log_device_length shape → sector k disk.base ≡ zero_block

-- over a data device of zeros the bytes are a formatted store
abbrev pub IsNewLog : Shape → List ℕ → Type 0
IsNewLog shape bytes = (data_bytes : List ℕ) → IsFormattedData shape data_bytes → IsOrderly bytes data_bytes (formatted_store shape)

-- no header is read of a fair image, or it is the log of a formatted store
abbrev pub MayBeNewLog : Shape → Disk → Type 0
MayBeNewLog shape disk = (image : List ℕ) → IsFairLog disk image → HasNoHead image ⊎ IsNewLog shape image

-- nothing is pending, and the log is formatted
pub record HasNewLog (shape : Shape) (disk : Disk) : Type 0 where
  pub nothing_pending : disk ≡ settled disk.base
  pub log : IsFormattedLog shape disk.base

-- nothing is pending on the data device, and its slots and places are zeros
pub record HasBlankPages (shape : Shape) (disk : Disk) : Type 0 where
  pub nothing_pending : disk ≡ settled disk.base
  pub zeros : IsFormattedData shape disk.base
