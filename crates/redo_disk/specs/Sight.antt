-- What a reader of a device sees of it, and what each call does to that. A device that tells what it means goes on
-- telling, unless a read gives other bytes than it told; one that doesn't tell never does.
use Rattle.std.specs.Prelude.{ℕ, ◌≡◌, ◌≤◌, List, take, drop, Option, Some, None, Result, IsErrOf, IfSome, OnOk, OnErr}
use Rattle.model_base.specs.{HasRisen}
use Rattle.model_device.specs.{FailsWrite, synced, written, Disk}
use Rattle.model_device.specs.declared.write.Write.{Write}
use Rattle.redo_disk.specs.declared.error.DevError.{DevError}
use Rattle.redo_disk.specs.declared.error.DevError.TheVariants.{Failed}

-- a device, as its readers see it
pub record Seen : Type 0 where
  -- how many bytes it has
  pub size : ℕ
  -- what it means, where it tells
  pub tells : Option Disk
  -- what it meant just before its last crash, where it tells
  pub crashed_from : Option Disk
  -- how often it has failed
  pub faults : ℕ

-- so many of the bytes, from an offset on
abbrev pub part : List ℕ → ℕ → ℕ → List ℕ
part bytes at count = take count (drop at bytes)

-- the write of these bytes from an offset on
abbrev pub write_at : ℕ → List ℕ → Write
write_at at bytes = record { at = at; bytes = bytes }

-- a device that told what it means goes on telling, and the call relates the two; one that didn't tell still doesn't
abbrev pub OnTold : Option Disk → Option Disk → (Disk → Disk → Type 0) → Type 0
OnTold None new R = new ≡ None
OnTold (Some old) new R = (next : Disk) × (new ≡ Some next) × R old next

-- what a device tells now it told before: it may have fallen silent, and then never tells again
abbrev pub StillTells : Option Disk → Option Disk → Type 0
StillTells old new = IfSome new (λ disk. old ≡ Some disk)

-- a device that tells now told before, and the calls relate the two
abbrev pub WhereTold : Option Disk → Option Disk → (Disk → Disk → Type 0) → Type 0
WhereTold old new R = IfSome new (λ after. (before : Disk) × (old ≡ Some before) × R before after)

-- The count of faults never falls, and it has risen where the device failed.
pub record HasCause {T : Type 0} (before now : ℕ) (result : Result T DevError) : Type 0 where
  pub later : before ≤ now
  pub failed : IsErrOf result Failed → HasRisen before now

-- A read of so many bytes from an offset on; `out` is what stands in the buffer after it. A device that gives other bytes
-- than it told tells nothing from then on.
pub record ReadStep (at count : ℕ) (old : Seen) (result : Result (Unit {0}) DevError) (out : List ℕ) (new : Seen) : Type 0 where
  pub bytes : OnOk result (IfSome new.tells (λ disk. out ≡ part disk.reads at count))
  pub same : StillTells old.tells new.tells
  pub same_crash : new.crashed_from ≡ old.crashed_from
  pub size : new.size ≡ old.size
  pub cause : HasCause old.faults new.faults result

-- A write. Where it fails the sectors that it covers may hold any bytes.
pub record WriteStep (write : Write) (old : Seen) (result : Result (Unit {0}) DevError) (new : Seen) : Type 0 where
  pub ok : OnOk result (OnTold old.tells new.tells (λ before after. after ≡ written before write))
  pub err : OnErr result (OnTold old.tells new.tells (FailsWrite write))
  pub size : new.size ≡ old.size
  pub cause : HasCause old.faults new.faults result

-- A sync. Where it fails it changes nothing.
pub record SyncStep (old : Seen) (result : Result (Unit {0}) DevError) (new : Seen) : Type 0 where
  pub ok : OnOk result (OnTold old.tells new.tells (λ before after. after ≡ synced before))
  pub err : OnErr result (new.tells ≡ old.tells)
  pub size : new.size ≡ old.size
  pub cause : HasCause old.faults new.faults result
