-- The crash theorem. For every script, all turns or threads and any stops of the devices, `redolab crash` prints
-- groups in lsn order, each user's as its script orders and once, then the pages read from what the devices kept:
-- those of applying the first n groups whole to the opened pages, n reaching every group printed flushed; a group is
-- lost only where a device call failed.
use Rattle.std.specs.Prelude.{ℕ, ◌≡◌, ◌≢◌, ◌≤◌, ◌<◌, ◌⊎◌, ◌+◌, List, Bool, Option, Some, None, IfSome, IsTrue}
use Rattle.std.specs.Option.{option_map}
use Rattle.model_base.specs.{HasRisen}
use Rattle.model_device.specs.{Crashes, Disk}
use Rattle.model_report.specs.{report_text}
use Rattle.model_report.specs.declared.entry.Followed.{Followed}
use Rattle.model_script.specs.declared.asked.Command.TheVariants.{Crash}
use Rattle.model_script.specs.declared.asked.Drive.{Drive}
use Rattle.model_script.specs.declared.script.ScriptLine.{ScriptLine}
use Rattle.model_store.specs.{HasOldCopies, IsReading, IsUnused, Reading}
use Rattle.model_theorem.specs.{AreFormatted, entries_of, IsPrefixRead, IsRun, LosesOnlyByFailure, misfit_on, Opened, Ran}
use Rattle.redo_disk.specs.{WhereTold}
use Rattle.redo_memdisk.specs.{has_passed_all}
use Rattle.redo_memdisk.specs.declared.fuse.Stage.TheVariants.{Stopping}
use Rattle.redo_lab.specs.Call.{BothDevices, Guarded, IsLeftFair, LabCall, WhereOpened, WhereToldAtEntry, WhereToldNow, mids}
use Rattle.redo_lab.specs.Told.{IsAccount}

-- THE DEVICE WAS STOPPED AND CRASHED as the words ask, and not otherwise: its fuse was armed with their limit. A call fails
-- only where the device that was handed in has failed, or where the fuse has passed on as many calls as that; without a
-- limit only the first. It was crashed once, with the pick of the words, and nothing was written since: where it tells, it
-- has kept one of the images that it had just before.
pub record IsCrashedAs (limit : Option ℕ) (pick : ℕ) (device : Guarded) : Type 0 where
  pub limit_is : device.fuse.limit ≡ limit
  pub passed_at_most : IfSome limit (λ limit. device.fuse.passed ≤ limit)
  pub cause : 0 < device.fuse.mid
      → HasRisen device.entry.faults device.now.faults ⊎ IsTrue (has_passed_all Stopping limit device.fuse.passed)
  pub pick_is : device.fuse.pick ≡ Some pick
  pub kept : WhereTold device.now.crashed_from device.now.tells Crashes
  pub unchanged_since : device.fuse.late_changes ≡ 0

-- both devices were
abbrev pub AreCrashedAs : (stop_log stop_data : Option ℕ) (pick : ℕ) → LabCall → Type 0
AreCrashedAs stop_log stop_data pick call = IsCrashedAs stop_log pick call.log × IsCrashedAs stop_data pick call.store

-- THE FUSES WERE ARMED BEFORE OPENING, which reads the log device, and its fuse has counted that. Where the log device was
-- unused when it was handed in, the two were as formatting leaves them; else as they were handed in, and before came at most
-- one read of the log device's header blocks.
pub record AreArmedFirst (call : LabCall) : Type 0 where
  pub opening_counted : 0 < call.log.fuse.passed + call.log.fuse.mid
  pub told : BothDevices (λ device. device.now.tells ≢ None → device.armed_from ≢ None) call
  pub unused : WhereToldAtEntry call (λ log store. IsUnused log.reads → (log_armed store_armed : Disk)
      → call.log.armed_from ≡ Some log_armed → call.store.armed_from ≡ Some store_armed → AreFormatted log_armed store_armed)
  pub in_use : WhereToldAtEntry call (λ log store. (IsUnused log.reads → ⊥)
      → BothDevices (λ device. device.armed_from ≡ device.entry.tells) call
      × (call.log.fuse.early_calls ≤ 1) × (call.store.fuse.early_calls ≡ 0))

-- On the store that was opened the script fits where it was run, the run is a legal history, and what was read are the opened
-- pages with its first n groups applied whole, n reaching every flushed one. No copy in a slot is ahead of its page, so that
-- the devices may be opened again.
pub record ReadsRun (call : LabCall) (log_only : Bool) (store : Opened) (script : List ScriptLine) (run : Option Ran)
    (reading : Reading) : Type 0 where
  pub fits : IfSome run (λ run. misfit_on log_only None store script ≡ None)
  pub in_lsn_order : IfSome run (IsRun script store)
  pub first_groups_whole : IsPrefixRead script store run reading
  pub old_copies : WhereToldNow call (λ log_disk data_disk. HasOldCopies data_disk.reads reading)

-- THE CRASH THEOREM, of a call of `crash` with this text: it is told of the drive's run, which the crash met as the run left it.
-- Where both devices told and open a store, and what the crash left is fair, the reading is of the first groups of the run.
pub record CrashSafe (call : LabCall) (drive : Drive) (stop_log stop_data : Option ℕ) (pick workers : ℕ) (text : List ℕ)
    : Type 0 where
  pub opened : Opened
  pub script : List ScriptLine
  pub run : Option Ran
  pub left : List (ℕ × ℕ)
  pub follows : List Followed
  pub reading : Reading
  pub every_script : IsAccount call (Crash drive stop_log stop_data pick workers) drive opened script run left follows
      call.log.now.crashed_from call.store.now.crashed_from
  pub any_stops : AreCrashedAs stop_log stop_data pick call
  pub armed_first : AreArmedFirst call
  pub prints : text ≡ report_text (option_map (λ run. run.start) run) (entries_of run) left (option_map (λ run. run.marks) run) follows (Some (reading.end, reading.pages))
  pub read_from_devices : WhereToldNow call (λ log store. IsReading log.reads store.reads reading)
  pub first_groups_whole : (store : Opened) → WhereOpened call store (IsLeftFair call store
      → ReadsRun call drive.log_only store script run reading)
  pub lost_only_by_failure : LosesOnlyByFailure (mids call) run left
