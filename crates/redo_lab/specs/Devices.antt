-- The two devices of a call behind their fuses: while a run prepares them, from the arming of the fuses to the crash, and after it.
use Rattle.std.specs.Prelude.{ℕ, ◌≡◌, ◌≢◌, ◌≤◌, ◌<◌, ◌⊎◌, Option, Some, None, IfSome, IsTrue, List, length}
use Rattle.model_base.specs.{HasRisen, default_shape}
use Rattle.model_device.specs.{Disk}
use Rattle.model_log.specs.declared.layout.TheConstants.{HEADER_BYTES}
use Rattle.model_parts.specs.{IsFormatted}
use Rattle.model_store.specs.{IsUnused}
use Rattle.redo_disk.specs.{Call, ReadsEndWith}
use Rattle.redo_disk.specs.declared.error.DevError.{DevError}
use Rattle.redo_memdisk.specs.{has_passed_all}
use Rattle.redo_memdisk.specs.declared.fuse.Stage.{Stage}
use Rattle.redo_memdisk.specs.declared.fuse.Stage.TheVariants.{Before, Stopping}
use Rattle.redo_lab.specs.declared.playing.Stops.{Stops}
use Rattle.redo_lab.specs.Call.{BothDevices, Guarded, LabCall, WhereToldAtEntry}
use Rattle.redo_lab.specs.Cause.{AreLongEnough}

-- the device has its size, its count of faults hasn't fallen, and one that tells now told at entry
pub record IsSame (device : Guarded) : Type 0 where
  pub size : device.now.size ≡ device.entry.size
  pub later : device.entry.faults ≤ device.now.faults
  pub tells : device.now.tells ≢ None → device.entry.tells ≢ None

-- The fuse isn't armed, and so many calls failed.
pub record IsUnarmed (failed : ℕ) (device : Guarded) : Type 0 where
  pub same : IsSame device
  pub stage : device.fuse.stage ≡ Before
  pub passed : device.fuse.passed ≡ 0
  pub early : device.fuse.early ≡ failed
  pub mid : device.fuse.mid ≡ 0
  pub late : device.fuse.late ≡ 0
  pub late_changes : device.fuse.late_changes ≡ 0
  pub risen : 0 < failed → HasRisen device.entry.faults device.now.faults

-- The fuse was armed with this limit, no call had failed before, and it is now in this stage; after the crash, if it came, nothing
-- was written, and so many calls failed.
pub record IsArmed (limit : Option ℕ) (stage : Stage) (failed_since : ℕ) (device : Guarded) : Type 0 where
  pub same : IsSame device
  pub stage_is : device.fuse.stage ≡ stage
  pub limit_is : device.fuse.limit ≡ limit
  pub within : IfSome limit (λ limit. device.fuse.passed ≤ limit)
  pub early : device.fuse.early ≡ 0
  pub late : device.fuse.late ≡ failed_since
  pub late_changes : device.fuse.late_changes ≡ 0
  pub cause : 0 < device.fuse.mid
      → HasRisen device.entry.faults device.now.faults ⊎ IsTrue (has_passed_all Stopping limit device.fuse.passed)
  pub risen : 0 < failed_since → HasRisen device.entry.faults device.now.faults
  pub told : device.now.tells ≢ None → device.armed_from ≢ None

-- the calls are one read, which ended so
pub record IsFirstRead (error : Option DevError) (calls : List Call) : Type 0 where
  pub reads : ReadsEndWith error calls
  pub one : length calls ≡ 1

-- The log device was unused, where both told, and both are long enough for a new store; when the fuses were armed they held one
-- that was just formatted, where they told.
pub record WereFormatted (call : LabCall) : Type 0 where
  pub unused : WhereToldAtEntry call (λ log store. IsUnused log.reads)
  pub long : AreLongEnough default_shape call.log.entry.size call.store.entry.size
  pub formatted : (log store : Disk) → call.log.armed_from ≡ Some log → call.store.armed_from ≡ Some store → IsFormatted default_shape log store

-- The log device was in use, where both told; and until the fuses were armed both meant what they had meant, the log device was
-- called once at the most, and the data device wasn't.
pub record WereInUse (call : LabCall) : Type 0 where
  pub used : WhereToldAtEntry call (λ log store. IsUnused log.reads → ⊥)
  pub kept : BothDevices (λ device. device.now.tells ≢ None → device.armed_from ≡ device.entry.tells) call
  pub log_calls : call.log.fuse.early_calls ≤ 1
  pub data_calls : call.store.fuse.early_calls ≡ 0

-- BOTH WERE PREPARED when their fuses were armed: they were formatted or are in use.
pub record ArePrepared (call : LabCall) : Type 0 where
  pub header : HEADER_BYTES ≤ call.log.entry.size
  pub which : WereFormatted call ⊎ WereInUse call

-- the devices as the arming of their fuses finds them
abbrev pub to_be_armed : LabCall → LabCall
to_be_armed call = record call {
  log = record call.log { armed_from = call.log.now.tells };
  store = record call.store { armed_from = call.store.now.tells };
}

-- BOTH FUSES ARE ARMED with these stops, after the devices were prepared.
pub record AreArmed (call : LabCall) (stops : Stops) : Type 0 where
  pub prepared : ArePrepared call
  pub log_device : IsArmed stops.log Stopping 0 call.log
  pub data_device : IsArmed stops.store Stopping 0 call.store

-- no call failed since, and each means what it meant then
abbrev pub AreAsArmed : LabCall → Type 0
AreAsArmed call = BothDevices (λ device. (device.fuse.mid ≡ 0) × (device.armed_from ≡ device.now.tells)) call
