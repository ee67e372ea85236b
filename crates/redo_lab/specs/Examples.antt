-- Calls that the promise of stops and of arming is tried on: what it refuses, and what it admits.
use Rattle.std.specs.Prelude.{ℕ, ◌≡◌, ◌≢◌, ◌<◌, List, [], length, Option, Some, None}
use Rattle.model_device.specs.{settled, Disk}
use Rattle.model_device.specs.declared.write.Write.{Write}
use Rattle.model_store.specs.{IsReading, IsUnused, Reading}
use Rattle.redo_memdisk.specs.{fresh}
use Rattle.redo_memdisk.specs.declared.fuse.Stage.TheVariants.{Crashed}
use Rattle.redo_lab.specs.Call.{Guarded, LabCall}
use Rattle.redo_lab.specs.Crash.{AreArmedFirst, AreCrashedAs}

-- a call that tells nothing but its devices, which are these: what is said of stops and of arming looks at nothing else
abbrev pub call_with : Guarded → Guarded → LabCall
call_with log store = record {
  words = [];
  source = record { left = None; faults = 0 };
  source_now = record { left = None; faults = 0 };
  log = log;
  store = store;
  archive = record { entry = store.entry; now = store.now };
  drives = λ drive opened script run follows end log_met store_met. Unit {0};
}

-- REFUSED.

-- the device hasn't failed
pub record HasNotFailed (device : Guarded) : Type 0 where
  pub can_count : device.entry.faults < 1
  pub well : device.now.faults ≡ 0

-- the log device was unused, and when its fuse was armed the store had been opened
pub record ArmsLate (log store : Guarded) : Type 0 where
  pub log_entry : Disk
  pub store_entry : Disk
  pub log_tells : log.entry.tells ≡ Some log_entry
  pub store_tells : store.entry.tells ≡ Some store_entry
  pub log_still : log.now.tells ≢ None
  pub store_still : store.now.tells ≢ None
  pub log_armed : Disk
  pub store_armed : Disk
  pub log_armed_is : log.armed_from ≡ Some log_armed
  pub store_armed_is : store.armed_from ≡ Some store_armed
  pub unused : IsUnused log_entry.reads
  pub reading : Reading
  pub is_read : IsReading log_armed.reads store_armed.reads reading
  pub was_opened : 0 < reading.number

-- ADMITTED.

-- a device that was found so, and met the crash so, by which it kept these bytes, behind a fuse of this limit, which passed on so
-- many calls; so many failed, and so many faults are counted
abbrev pub crashed_device : (found : List ℕ) (met : Disk) (bytes : List ℕ) (limit : Option ℕ) (passed failed faults : ℕ) → Guarded
crashed_device found met bytes limit passed failed faults = record {
  entry = record { size = length found; tells = Some (settled found); crashed_from = None; faults = 0 };
  now = record { size = length found; tells = Some (settled bytes); crashed_from = Some met; faults = faults };
  fuse = record fresh { stage = Crashed; limit = limit; passed = passed; mid = failed; pick = Some 0 };
  armed_from = Some (settled found);
}

-- of which no call failed, and that had no write pending
abbrev pub quiet_device : (found bytes : List ℕ) → Guarded
quiet_device found bytes = crashed_device found (settled bytes) bytes None 1 0 0

-- without a stop, and with no failure
abbrev pub quiet_call : (found log data_bytes : List ℕ) → LabCall
quiet_call found log data_bytes = call_with (quiet_device found log) (quiet_device data_bytes data_bytes)

-- without a stop, where the log device itself failed a sync, and then lost these writes
abbrev pub failed_call : (found log : List ℕ) → List Write → (reads data_bytes : List ℕ) → LabCall
failed_call found log writes reads data_bytes = call_with
    (crashed_device found (record { base = log; writes = writes; reads = reads }) log None 3 1 1) (quiet_device data_bytes data_bytes)

-- where the log device was stopped at its first call, as the words asked
abbrev pub stopped_call : (log data_bytes : List ℕ) → LabCall
stopped_call log data_bytes =
    call_with (crashed_device log (settled log) log (Some 0) 0 1 0) (quiet_device data_bytes data_bytes)

-- all that is promised of stops and of arming holds of the call, whose words ask for this stop of the log device
abbrev pub IsAdmitted : (stop_log : Option ℕ) → LabCall → Type 0
IsAdmitted stop_log call = AreCrashedAs stop_log None 0 call × AreArmedFirst call
