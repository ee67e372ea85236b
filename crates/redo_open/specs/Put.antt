-- One block of a log device while it is put, by a write and a sync.
-- The two header blocks of a log device while they are made alike.
-- The log device while the log of a store of format 1 becomes one of format 2.
use Rattle.std.specs.Prelude.{ℕ, ◌≡◌, ◌≤◌, ◌+◌, ◌*◌, List, length, Result, OnOk, OnErr}
use Rattle.model_base.specs.declared.limits.TheConstants.{BLOCK_SIZE}
use Rattle.model_device.specs.{settled, IsWithin, sector, Disk}
use Rattle.model_device.specs.declared.write.Write.{Write}
use Rattle.model_parts.specs.{IsAtRest, IsPut, IsPutting, KeepsHead, IsMigrated, IsMigrating}
use Rattle.model_store.specs.{IsFairLog}
use Rattle.redo_disk.specs.{HasCause, OnTold, write_at, part, Seen}
use Rattle.redo_disk.specs.declared.error.DevError.{DevError}
use Rattle.model_base.specs.declared.shape.Shape.{Shape}
use Rattle.model_log.specs.{head_of, read_head, log_device_length}
use Rattle.model_log.specs.declared.head.Format.{Format}
use Rattle.model_log.specs.declared.head.Head.TheVariants.{Good}
use Rattle.redo_open.specs.declared.heads.TheConstants.{HEADS}

-- the device is at rest, and has at least so many bytes
pub record IsAtRestTo (end : ℕ) (disk : Disk) : Type 0 where
  pub rests : IsAtRest disk
  pub long : end ≤ length disk.reads

-- where a block ends on its device
abbrev pub end_of_block : ℕ → ℕ
end_of_block k = BLOCK_SIZE * k + BLOCK_SIZE

-- the write of these bytes into the block
abbrev pub block_write : ℕ → List ℕ → Write
block_write k bytes = write_at (BLOCK_SIZE * k) bytes

-- in each fair image of the device the block is being put
abbrev pub PutsBlock : ℕ → List ℕ → List ℕ → Disk → Type 0
PutsBlock k bytes content disk = (image : List ℕ) → IsFairLog disk image → IsPutting k bytes content image

-- nothing is pending, and the block is put
pub record HasPut (k : ℕ) (bytes content : List ℕ) (disk : Disk) : Type 0 where
  pub nothing_pending : disk ≡ settled disk.base
  pub put : IsPut k bytes content disk.base

-- The step, on a device that is at rest. Where it fails, what stood there at the last good sync is as it was.
pub record PutStep (k : ℕ) (bytes : List ℕ) (old : Seen) (result : Result (Unit {0}) DevError) (new : Seen) : Type 0 where
  pub keeps : OnTold old.tells new.tells (λ before after. IsAtRestTo (end_of_block k) before → PutsBlock k bytes before.reads after)
  pub ok : OnOk result (OnTold old.tells new.tells (λ before after. IsAtRestTo (end_of_block k) before → HasPut k bytes before.reads after))
  pub unmoved : OnErr result (OnTold old.tells new.tells (λ before after. after.base ≡ before.base))
  pub size : new.size ≡ old.size
  pub cause : HasCause old.faults new.faults result

-- in each fair image of the device the header says what it said, and all other blocks are as they were
abbrev pub KeepsHeads : List ℕ → Disk → Type 0
KeepsHeads content disk = (image : List ℕ) → IsFairLog disk image → KeepsHead content image

-- the device is at rest, and both say it
pub record HasAlike (content : List ℕ) (disk : Disk) : Type 0 where
  pub rests : IsAtRest disk
  pub kept : KeepsHead content disk.reads
  pub alike : sector 2 disk.reads ≡ sector 0 disk.reads

-- the device is at rest, its header says this, and these bytes stand at its front
pub record HaveHeads (format : Format) (shape : Shape) (heads : List ℕ) (disk : Disk) : Type 0 where
  pub rests : IsAtRestTo HEADS disk
  pub says : head_of disk.reads ≡ Good format shape
  pub front : heads ≡ part disk.reads 0 HEADS

-- the write is one within the two header blocks, and puts what says this
pub record PutsHead (format : Format) (shape : Shape) (write : Write) : Type 0 where
  pub inside : IsWithin HEADS write
  pub says : read_head write.bytes ≡ Good format shape

-- The step, on such a device.
pub record AlikeStep (format : Format) (shape : Shape) (heads : List ℕ) (old : Seen) (result : Result (Unit {0}) DevError) (new : Seen) : Type 0 where
  pub keeps : OnTold old.tells new.tells (λ before after. HaveHeads format shape heads before → KeepsHeads before.reads after)
  pub ok : OnOk result (OnTold old.tells new.tells (λ before after. HaveHeads format shape heads before → HasAlike before.reads after))
  pub size : new.size ≡ old.size
  pub cause : HasCause old.faults new.faults result

-- each fair image of the device is one of such a log
abbrev pub Migrates : Shape → ℕ → ℕ → List ℕ → Disk → Type 0
Migrates shape number lsn content disk = (image : List ℕ) → IsFairLog disk image → IsMigrating shape number lsn content image

-- nothing is pending, and it is taken to format 2
pub record HasMigrated (shape : Shape) (number lsn : ℕ) (content : List ℕ) (disk : Disk) : Type 0 where
  pub nothing_pending : disk ≡ settled disk.base
  pub migrated : IsMigrated shape number lsn content disk.base

-- The steps of it, on a device that is at rest. Where one of them fails, the first header block is as it was at the last good
-- sync.
pub record MigrateStep (shape : Shape) (number lsn : ℕ) (old : Seen) (result : Result (Unit {0}) DevError) (new : Seen) : Type 0 where
  pub keeps : OnTold old.tells new.tells (λ before after. IsAtRestTo (log_device_length shape) before → Migrates shape number lsn before.reads after)
  pub ok : OnOk result (OnTold old.tells new.tells (λ before after. IsAtRestTo (log_device_length shape) before
      → HasMigrated shape number lsn before.reads after))
  pub unmoved : OnErr result (OnTold old.tells new.tells (λ before after. IsAtRestTo (log_device_length shape) before
      → sector 0 after.base ≡ sector 0 before.reads))
  pub size : new.size ≡ old.size
  pub cause : HasCause old.faults new.faults result
