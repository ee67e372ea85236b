-- A command that runs a script: how far its run came, and what that leaves of the two devices.
use Rattle.std.specs.Prelude.{ℕ, ◌≡◌, ◌≢◌, ◌≤◌, ◌<◌, ◌+◌, false, List, [], Option, Some, None, IfSome, Result, Ok, Err, length, Vec, ⊤}
use Rattle.std.specs.Option.{option_map}
use Rattle.std.specs.Borrow.{Bor}
use Rattle.std.specs.declared.alloc.Global.{Global}
use Rattle.model_device.specs.{Disk}
use Rattle.model_page.specs.declared.content.Content.{Content}
use Rattle.model_parts.specs.{IsOpenable}
use Rattle.model_report.specs.{IsLeft, report_text, summary_text}
use Rattle.model_report.specs.declared.entry.Followed.{Followed}
use Rattle.model_report.specs.declared.fault.Fault.{Fault}
use Rattle.model_report.specs.declared.fault.Fault.TheVariants as fault
use Rattle.model_report.specs.declared.fault.Fault.TheVariants.{Memory}
use Rattle.model_script.specs.declared.asked.Command.{Command}
use Rattle.model_script.specs.declared.asked.Command.TheVariants.{Crash, Run}
use Rattle.model_script.specs.declared.asked.Drive.{Drive}
use Rattle.model_script.specs.declared.script.ScriptLine.{ScriptLine}
use Rattle.model_store.specs.{IsReading, Reading}
use Rattle.model_theorem.specs.{entries_of, Opened, Ran, room_of}
use Rattle.redo_disk.specs.{Call, Seen}
use Rattle.redo_disk.specs.declared.error.DevError.{DevError}
use Rattle.redo_disk.specs.declared.error.DevError.TheVariants as device
use Rattle.redo_drive.specs.declared.drive.RunEnd.{RunEnd}
use Rattle.redo_drive.specs.declared.drive.RunEnd.TheVariants as ended
use Rattle.redo_io.specs.{SourceSeen}
use Rattle.redo_memdisk.specs.{seen_through}
use Rattle.redo_memdisk.specs.declared.fused.Fused.{Fused}
use Rattle.redo_open.specs.{IsOpenedReady}
use Rattle.redo_drive.specs.declared.closed.Closed.{Closed}
use Rattle.redo_store.specs.declared.opened.Opened as store
use Rattle.redo_recover.specs.declared.fault.RecFault.{RecFault}
use Rattle.redo_recover.specs.declared.fault.RecFault.TheVariants.{LogDev, DataDev}
use Rattle.redo_recover.specs.{refusal_of}
use Rattle.model_script.specs.{ArchiveFits, ScriptFits}
use Rattle.model_log.specs.{start_after}
use Rattle.redo_lab.specs.Cause.{archive_size, EndsWith, SparesArchive}
use Rattle.redo_lab.specs.declared.crash_command.Crashing.{Crashing}
use Rattle.redo_lab.specs.declared.outcome.Outcome.{Outcome}
use Rattle.redo_lab.specs.declared.outcome.Outcome.TheVariants as outcome
use Rattle.redo_lab.specs.declared.playing.Course.{Course}
use Rattle.redo_lab.specs.declared.playing.Course.TheVariants as course
use Rattle.redo_lab.specs.declared.playing.Played.{Played}
use Rattle.redo_lab.specs.declared.playing.Ran as declared
use Rattle.redo_lab.specs.declared.playing.Stops.{Stops}
use Rattle.redo_lab.specs.Told.{IsArchived, DevicesOpenAs, AreToldOf, AreLeftRead, AreMarksRead, HasArchiveFailed, HasRunScript, IsOpenedFirst, LosesOnlyBy}
use Rattle.redo_lab.specs.Call.{IsScriptFor, drive_of, reads_script, BothDevices, IsWellCalled, LabCall, Unfused, WhereOpened, WhereToldAtEntry, WhereToldNow, mids, unfused, AreOf, IsOpenedAt}
use Rattle.redo_lab.specs.Devices.{AreArmed, ArePrepared, IsUnarmed, to_be_armed}

-- the fault of a call whose store isn't formatted, read or opened
abbrev pub fault_of : RecFault → Fault
fault_of LogDev = fault.LogDevice
fault_of DataDev = fault.DataDevice
fault_of other = elim (refusal_of other) [ None ↦ fault.Memory | Some refusal ↦ fault.Store refusal ]

-- a command whose text is this, unless memory ran out over it
abbrev pub outcome_of : {E : Type 0} → Result (List ℕ) E → Outcome
outcome_of (Ok text) = outcome.Text text
outcome_of (Err error) = outcome.Fault Memory

-- where the devices are to stop: nowhere, unless they are crashed
abbrev pub stops_of : Option Crashing → Stops
stops_of None = record { log = None; store = None }
stops_of (Some crash) = crash.stops

-- the command that runs a script off the source so, and crashes both devices then, if it is to
abbrev pub command_with : Drive → Option Crashing → Command
command_with asked None = Run asked
command_with asked (Some crash) = Crash asked crash.stops.log crash.stops.store crash.pick crash.workers

-- THE COMMAND RUNS THIS SCRIPT, by this drive, off a source that is left alone if the script isn't there.
pub record CommandRuns (source source_now : SourceSeen) (command : Command) (drive : Drive) (script : List ScriptLine) : Type 0 where
  pub asked : drive_of command ≡ Some drive
  pub is_script : IsScriptFor command source source_now script
  pub unread : reads_script command ≡ false → source_now ≡ source

-- what preparing the devices comes to: they are ready to be armed, or a command that runs a script ends by this
abbrev pub Prepares : LabCall → Result (Unit {0}) RecFault → Type 0
Prepares call (Ok done) = BothDevices (IsUnarmed 0) call × ArePrepared (to_be_armed call)
Prepares call (Err fault) = (command : Command) (drive : Drive) (script : List ScriptLine) → CommandRuns call.source call.source_now command drive script
    → EndsWith call command (outcome.Fault (fault_of fault))

-- WHAT IS LEFT of a run that ended so, or of an opening that a device stopped: its first call was counted, the run is told rightly of
-- the store on which it began, and each image of the devices is read as a prefix of it.
pub record IsLeftBy (call : LabCall) (command : Command) (drive : Drive) (stops : Stops) (script : List ScriptLine) (run : Option Ran)
    (follows : List Followed) (end : RunEnd) : Type 0 where
  pub armed : AreArmed call stops
  pub counted : 0 < call.log.fuse.passed + call.log.fuse.mid
  pub opened : Opened
  pub ran : IfSome run (λ run. HasRunScript call command drive opened script run follows end call.log.now.tells call.store.now.tells)
  pub opened_first : IsOpenedFirst call call.log.now.tells run
  pub reads : AreLeftRead call script run

-- What is told of it is so: something is lost only where a device failed, and its marks are read.
pub record IsToldRightly (call : LabCall) (drive : Drive) (script : List ScriptLine) (run : Option Ran) (follows : List Followed) : Type 0 where
  pub loses : (left : List (ℕ × ℕ)) → IsLeft script (entries_of run) left → LosesOnlyBy call drive run left
  pub marks : AreMarksRead call drive run call.log.now.tells call.store.now.tells
  pub followers : AreToldOf call drive script run follows call.log.now.tells call.store.now.tells

-- this device failed since its fuse was armed: the log device where both did
abbrev pub HasFailed : LabCall → Fault → Type 0
HasFailed call fault.LogDevice = 0 < call.log.fuse.mid
HasFailed call fault.DataDevice = (0 < call.store.fuse.mid) × (call.log.fuse.mid ≡ 0)
HasFailed call _ = ⊥

-- or the archive's device did, where no other did
abbrev pub HasEnded : LabCall → Drive → Fault → Type 0
HasEnded call drive fault.ArchiveDevice = HasArchiveFailed call drive × (mids call ≡ 0)
HasEnded call drive fault = HasFailed call fault

-- no device failed, and what reads of the two give is read; or this one ended the run
abbrev pub IsPlayedTo : LabCall → Drive → Option Fault → Type 0
IsPlayedTo call drive None = (mids call ≡ 0) × ((store : Opened) → WhereOpened call store (WhereToldNow call (λ log_disk data_disk.
    (reading : Reading) × IsReading log_disk.reads data_disk.reads reading)))
IsPlayedTo call drive (Some fault) = HasEnded call drive fault

-- what its archive is left with, if it has one: the run up to FLUSHED, if no device failed
abbrev pub IsArchivedTo : LabCall → Drive → List ScriptLine → Ran → Option Fault → Type 0
IsArchivedTo call drive script run None = IsArchived (λ mark flushed. mark ≡ flushed) call drive script run
IsArchivedTo call drive script run (Some fault) = IsArchived (λ mark flushed. mark ≤ flushed) call drive script run

-- the run, as the theorem has it
abbrev pub ran_of : Played → Ran
ran_of played = record { start = played.start; entries = played.history; marks = played.marks }

-- WHAT A RUN COMES TO: the command ends with this fault; or a device stopped opening; or the lines were run.
abbrev pub ComesTo : LabCall → Command → Drive → Stops → List ScriptLine → Course → Type 0
ComesTo call command drive stops script (course.Ended fault) = EndsWith call command (outcome.Fault fault)
ComesTo call command drive stops script (course.Stopped fault) =
    IsLeftBy call command drive stops script None [] ended.Done × HasFailed call fault
ComesTo call command drive stops script (course.Played played fault) =
    IsLeftBy call command drive stops script (Some (ran_of played)) played.follows.items ended.Done
    × IsToldRightly call drive script (Some (ran_of played)) played.follows.items × IsPlayedTo call drive fault
    × IsArchivedTo call drive script (ran_of played) fault

-- the same of the devices that are given back, with which the call is this
abbrev pub IsRanBy : {L D : Type 0} → (Fused L → Fused D → LabCall) → Command → Drive → Stops → List ScriptLine → declared.Ran L D → Type 0
IsRanBy call command drive stops script ran = ComesTo (call ran.log ran.store) command drive stops script ran.course

-- the archive's device is as it was, where the run ended before its archive was begun
abbrev pub SparedBy : Course → Unfused → Type 0
SparedBy (course.Ended fault) archive = SparesArchive archive (outcome.Fault fault)
SparedBy (course.Stopped fault) archive = SparesArchive archive (outcome.Fault fault)
SparedBy (course.Played played fault) archive = ⊤

-- the lines were run, and no device ended the run
abbrev pub IsUncut : Course → Type 0
IsUncut (course.Played played None) = ⊤
IsUncut _ = ⊥

-- no call of the archive's device answered an error in a run that no device ended, if one was handed on
abbrev pub AreWellCalled : {A : Type 0} → (A → Call → A → Type 0) → Course → (device now : Option A) → Type 0
AreWellCalled gives course (Some device) (Some now) = IsUncut course → IsWellCalled gives device now
AreWellCalled gives course device now = ⊤

-- WHAT BECOMES OF THE ARCHIVE'S DEVICE, if one was handed on: it is given back, and so
abbrev pub IsGivenBack : {A : Type 0} → (A → Seen) → (Unfused → Type 0) → (device now : Option A) → Type 0
IsGivenBack seen Is None None = ⊤
IsGivenBack seen Is (Some device) (Some now) = Is (unfused seen device now)
IsGivenBack seen Is device now = ⊥

-- THE STORE STANDS OPENED on both devices after their fuses were armed, the script fits it, and no call failed.
pub record StandsReady {L D : Type 0} (log_seen : L → Seen) (data_seen : D → Seen) (call : LabCall) (drive : Drive) (stops : Stops) (script : List ScriptLine)
    (given : store.Opened (Fused L) (Fused D)) : Type 0 where
  pub armed : AreArmed call stops
  pub counted : 0 < call.log.fuse.passed + call.log.fuse.mid
  pub unfailed : mids call ≡ 0
  pub opened : Opened
  pub is_opened : IsOpenedAt opened given
  pub opens : WhereToldAtEntry call (DevicesOpenAs opened)
  pub fits : ScriptFits opened.shape (start_after opened.end) (room_of drive.log_only opened) script
  pub archive_fits : ArchiveFits opened.shape (start_after opened.end) (archive_size call.archive drive) script
  pub reads : AreLeftRead call script None
  pub ready : (reading : Reading) (log store : Disk) → call.log.armed_from ≡ Some log → call.store.armed_from ≡ Some store
      → call.log.now.tells ≢ None → call.store.now.tells ≢ None → IsOpenable reading log store → IsOpenedReady (seen_through log_seen) (seen_through data_seen) reading given

-- the store stands ready for the drive that is asked for, or this came of it
abbrev pub AreReady : {L D : Type 0} → (L → Seen) → (D → Seen) → (Fused L → Fused D → LabCall) → Command → Drive → Stops → List ScriptLine
    → Result (store.Opened (Fused L) (Fused D)) (declared.Ran L D) → Type 0
AreReady log_seen data_seen call command drive stops script (Ok given) =
    StandsReady log_seen data_seen (call given.log.dev given.store.dev) drive stops script given
AreReady log_seen data_seen call command drive stops script (Err ran) = IsRanBy call command drive stops script ran

-- its devices are those that were handed in
abbrev pub AreEntered : {L D : Type 0} → L → D → Result (store.Opened (Fused L) (Fused D)) (declared.Ran L D) → Type 0
AreEntered log data_device (Ok opened) = AreOf log data_device opened.log.dev opened.store.dev
AreEntered log data_device (Err ran) = AreOf log data_device ran.log ran.store

-- what a run comes to whose store wasn't opened
abbrev pub unopened : RecFault → Course
unopened LogDev = course.Stopped fault.LogDevice
unopened DataDev = course.Stopped fault.DataDevice
unopened other = course.Ended (fault_of other)

-- the lines that were run, as the drive hands them back
abbrev pub played_of : {L D : Type 0} → ℕ → Closed L D → Vec Followed Global → Played
played_of start closed follows = record { start = start; history = closed.history; marks = closed.marks; follows = follows }

-- why a run that all users ended comes to no text, or with a fault after it, by what a call of each device answered that
-- failed: a log fault goes before a data fault, both before the archive's, and all before want of memory
abbrev pub ended_by : (log_error data_error archive_error : Option DevError) → Option Fault
ended_by (Some device.Failed) data_error archive_error = Some fault.LogDevice
ended_by log_error (Some device.Failed) archive_error = Some fault.DataDevice
ended_by log_error data_error (Some device.Failed) = Some fault.ArchiveDevice
ended_by None None None = None
ended_by log_error data_error archive_error = Some fault.Memory

-- what a run comes to that all users ended
abbrev pub course_done : Played → Option Fault → Course
course_done played (Some fault.Memory) = course.Ended fault.Memory
course_done played ended = course.Played played ended

-- what a run comes to that ended so
abbrev pub course_of : RunEnd → Played → Option Fault → Course
course_of (ended.Spent turns user) played cause = course.Ended (fault.Turns turns user)
course_of ended.Done played cause = course_done played cause

-- the run of the lines that were played, if any were
abbrev pub played_run : Option (Bor Played) → Option Ran
played_run None = None
played_run (Some played) = Some (ran_of played.now)

-- and its followers
abbrev pub played_follows : Option (Bor Played) → List Followed
played_follows None = []
played_follows (Some played) = played.now.follows.items

-- how many groups the run reserved, its flushed mark and its checkpoint, and the checksum of the pages that are read after it
abbrev pub summary_of : Ran → Reading → List ℕ
summary_of run reading = summary_text (length run.entries) run.marks.flushed run.marks.ckpt reading.pages

-- The text is the report of this run of the script, with what is left of it and what is told of followers, and of what was read.
pub record IsReportOf (script : List ScriptLine) (run : Option Ran) (follows : List Followed) (read : Option (ℕ × List Content)) (text : List ℕ) : Type 0 where
  pub left : List (ℕ × ℕ)
  pub left_is : IsLeft script (entries_of run) left
  pub text_is : text ≡ report_text (option_map (λ run. run.start) run) (entries_of run) left (option_map (λ run. run.marks) run) follows read

-- what is to be printed of a run that was ended by this, if by anything: its report, if there was memory for it
abbrev pub IsRunPrinted : List ScriptLine → Ran → List Followed → Option Fault → Outcome → Type 0
IsRunPrinted script run follows cut (outcome.Text text) = (cut ≡ None) × IsReportOf script (Some run) follows None text
IsRunPrinted script run follows cut (outcome.Report text fault) = (cut ≡ Some fault) × IsReportOf script (Some run) follows None text
IsRunPrinted script run follows cut (outcome.Fault fault) = fault ≡ Memory
