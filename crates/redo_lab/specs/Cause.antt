-- Why a call ends without the text that it was asked for. The first cause that holds decides: the words, the source and its
-- script, formatting or opening, the fit, the run, the crash and the reading after it. Want of memory decides where it is met.
-- And what is owed of a call on devices that don't fail: it does what it is asked, or memory ran out, or turns were spent.
-- THE CONTRACT OF THE TOP CALL stands at the end: what each ending means, and what the text of each command says.
use Rattle.std.specs.Prelude.{ℕ, if◌then◌else◌, ◌≡◌, ◌≢◌, ◌≤◌, ◌<◌, ◌+◌, ◌⊎◌, true, false, List, [], Option, Some, None, IfSome, ⊤, length, Ok, Bool, ◌++◌}
use Rattle.model_base.specs.{default_shape, HasRisen}
use Rattle.model_script.specs.declared.asked.Command.{Command}
use Rattle.model_script.specs.declared.asked.Command.TheVariants.{Format, Run, Crash, Recover, Dump, Restore, Gen}
use Rattle.model_script.specs.declared.asked.Drive.{Drive}
use Rattle.model_log.specs.{log_device_length, IsStop, layout_of}
use Rattle.model_log.specs.declared.layout.TheConstants.{HEADER_BYTES}
use Rattle.model_parts.specs.{KeepsNoStore}
use Rattle.model_report.specs.declared.fault.Fault.{Fault}
use Rattle.model_report.specs.declared.fault.Fault.TheVariants.{Memory, Script, Source, LogDevice, DataDevice, ArchiveDevice, Store, Archive, Turns, Fit, Sink, Words}
use Rattle.model_report.specs.declared.entry.Followed.{Followed}
use Rattle.model_archive.specs.{IsRestored, RefusesRestore}
use Rattle.model_archive.specs.declared.refusal.RestoreRefusal.{RestoreRefusal}
use Rattle.model_page.specs.declared.content.Content.{Content}
use Rattle.model_script.specs.{generated_lines, script_of, generated_text}
use Rattle.model_script.specs.declared.misfit.Misfit.{Misfit}
use Rattle.model_script.specs.declared.script.ScriptLine.{ScriptLine}
use Rattle.model_script.specs.declared.words.TheConstants.{MAX_TURNS}
use Rattle.model_store.specs.{IsUnused, IsReading, Opens, RefusesToOpen, Reading}
use Rattle.model_store.specs.declared.refusal.Refusal.{Refusal}
use Rattle.model_store.specs.declared.refusal.Refusal.TheVariants.{SmallLog}
use Rattle.model_theorem.specs.{misfit_on, Opened, Ran, IsRun}
use Rattle.redo_drive.specs.declared.drive.RunEnd.TheVariants.{Spent}
use Rattle.redo_memdisk.specs.declared.fuse.Stage.TheVariants.{Before}
use Rattle.redo_lab.specs.Told.{IsArchived, AreReadAsPrefix, AreRefused, DevicesOpenAs, IsTooShort, AreLeftRead, HasRunScript, IsOpenedFirst, AreBlank, IsReportWith, IsRunText, IsSummaryText, LeavesStore}
use Rattle.redo_lab.specs.Call.{asked_shape, IsBadLine, IsLongScript, IsScriptFor, IsScriptRead, drive_of, drive_of_seed, reads_script, runs_script, HaveSameContents, AreUnfailedFor, IsSettledAtEntry, LabCall, BothDevices, Guarded, IsInRun, IsUnfailed, IsUnwritten, Unfused, WhereArchiveTold, WhereToldAtEntry, WhereToldNow, IsLeftFair, WhereOpened, command_of, leaves_devices, IsUnfailedAside, mids}
use Rattle.redo_lab.specs.Crash.{AreCrashedAs, CrashSafe}
use Rattle.model_base.specs.declared.limits.TheConstants.{MAX_SCRIPT}
use Rattle.model_base.specs.declared.shape.Shape.{Shape}
use Rattle.model_device.specs.{Disk}
use Rattle.model_page.specs.{data_device_length}
use Rattle.model_report.specs.{dump_text, format_text, recover_text, restored_text, fault_line, status_of}
use Rattle.model_log.specs.declared.cause.Cause.{Cause}
use Rattle.redo_disk.specs.{StillTells}
use Rattle.redo_io.specs.{SinkSeen, TakesAtMost, TakesPart, with_taken}
use Rattle.redo_io.specs.declared.read.TheConstants.{PIECE}
use Rattle.redo_lab.specs.declared.outcome.Outcome.{Outcome}
use Rattle.redo_lab.specs.declared.outcome.Outcome.TheVariants as outcome

-- where the command reads a script, all that the source had left was read, and is one
abbrev pub IsPastSource : LabCall → Command → Type 0
IsPastSource call command = reads_script command ≡ true → (script : List ScriptLine) × IsScriptRead call.source call.source_now script

-- A call of the device failed, and so its count rose; in a crash one before its fuse was armed, or after the crash, since a
-- failure between ends the run and not the call.
abbrev pub IsDeviceFault : Command → Guarded → Type 0
IsDeviceFault (Crash drive stop_log stop_data pick workers) device =
    HasRisen device.entry.faults device.now.faults × (0 < device.fuse.early + device.fuse.late)
IsDeviceFault command device =
    HasRisen device.entry.faults device.now.faults × (0 < device.fuse.early + (device.fuse.mid + device.fuse.late))

-- no fuse was armed: both devices are as they were; or the log device was unused, and whatever a crash leaves of the two is what
-- was there, no store, or a new one
abbrev pub IsUnprepared : LabCall → Type 0
IsUnprepared call = BothDevices (λ device. device.fuse.stage ≡ Before) call × (HaveSameContents call
    ⊎ WhereToldAtEntry call (λ log store. IsUnused log.reads × WhereToldNow call (KeepsNoStore default_shape log store)))

-- A run that a device ended is reported. Of `run` the line alone stands where no fuse was armed; or opening didn't come to its
-- end, and the store is read as it was opened.
abbrev pub IsUnbegun : LabCall → Command → Type 0
IsUnbegun call (Run drive) = IsUnprepared call ⊎ (IsOpenedFirst call call.log.now.tells None × AreLeftRead call [] None)
IsUnbegun call command = ⊤

-- both fuses are armed; but in `crash` both devices may be crashed
abbrev pub AreInRunOrCrashed : LabCall → Command → Type 0
AreInRunOrCrashed call (Crash drive stop_log stop_data pick workers) = BothDevices IsInRun call ⊎ AreCrashedAs stop_log stop_data pick call
AreInRunOrCrashed call command = BothDevices IsInRun call

-- THE DEVICES ARE THOSE OF A RUN of the command's script, or of none: on the store that was opened it is a legal history, and each
-- image is read as a prefix of it, where what a crash left is fair.
pub record AreOfRun (call : LabCall) (command : Command) : Type 0 where
  pub script : List ScriptLine
  pub run : Option Ran
  pub is_script : IsScriptFor command call.source call.source_now script
  pub in_run : AreInRunOrCrashed call command
  pub reads : (store : Opened) → WhereOpened call store (IsLeftFair call store → WhereToldNow call (λ log_disk data_disk.
      IfSome run (IsRun script store) × AreReadAsPrefix script store run log_disk data_disk))

-- What a command leaves where memory ran out or a device failed: `format` what was there, no store, or the new one.
abbrev pub LeavesFailed : LabCall → Command → Type 0
LeavesFailed call (Format page_size pages space log_blocks) =
    WhereToldAtEntry call (λ log store.
    WhereToldNow call (KeepsNoStore (asked_shape page_size pages space log_blocks) log store))
LeavesFailed call command = runs_script command ≡ true → IsUnprepared call ⊎ AreOfRun call command

-- The store that a run was to open is refused: the log device is too short for a header; or it is unused, and one is too short for
-- a new store; or it is in use, and what reads gave at entry isn't opened for a run. Both devices are as they were.
abbrev pub IsRefusedAtEntry : LabCall → Refusal → Type 0
IsRefusedAtEntry call refusal =
    (((call.log.entry.size < HEADER_BYTES) × (refusal ≡ SmallLog HEADER_BYTES))
    ⊎ ((HEADER_BYTES ≤ call.log.entry.size) × WhereToldAtEntry call (λ log store.
    (IsUnused log.reads × IsTooShort default_shape call.log.entry.size call.store.entry.size refusal)
    ⊎ ((IsUnused log.reads → ⊥) × RefusesToOpen log.reads store.reads refusal))))
    × HaveSameContents call

-- the store is refused, at entry or as a run or a crash left it
abbrev pub IsRefused : LabCall → Command → Refusal → Type 0
IsRefused call (Format page_size pages space log_blocks) refusal =
    IsTooShort (asked_shape page_size pages space log_blocks) call.log.entry.size call.store.entry.size refusal
    × BothDevices IsUnwritten call
IsRefused call (Run drive) refusal = IsRefusedAtEntry call refusal
IsRefused call (Crash drive stop_log stop_data pick workers) refusal =
    IsRefusedAtEntry call refusal
    ⊎ (AreCrashedAs stop_log stop_data pick call × WhereToldNow call (AreRefused refusal))
IsRefused call (Recover workers) refusal = WhereToldAtEntry call (AreRefused refusal)
IsRefused call (Dump why) refusal = WhereToldAtEntry call (AreRefused refusal)
IsRefused call (Restore to) refusal = ⊥
IsRefused call (Gen seed users groups true max) refusal =
    IsRefusedAtEntry call refusal ⊎ (BothDevices IsInRun call × WhereToldNow call (AreRefused refusal))
IsRefused call (Gen seed users groups false max) refusal = ⊥

-- A drive may spend so many turns: it runs by turns; and with the log alone, unarchived and without followers, where writer and flusher have turns,
-- the greatest number that may be asked for is enough, whatever the devices answer.
pub record MaySpend (drive : Drive) (turns : ℕ) : Type 0 where
  pub by_turns : drive.threads ≡ false
  pub few : drive.own_writes ≡ false → drive.log_only ≡ true → drive.archive ≡ false → drive.followers ≡ 0 → turns < MAX_TURNS

-- THE TURNS ARE SPENT: the drive's run has taken so many, which are all, and this is the least user that hasn't ended. What is left
-- is read as a prefix of the run.
pub record AreTurnsSpent (call : LabCall) (command : Command) (turns user : ℕ) : Type 0 where
  pub drive : Drive
  pub asked : drive_of command ≡ Some drive
  pub may_spend : MaySpend drive turns
  pub opened : Opened
  pub script : List ScriptLine
  pub run : Ran
  pub follows : List Followed
  pub is_run : HasRunScript call command drive opened script run follows (Spent turns user) call.log.now.tells call.store.now.tells
  pub in_run : BothDevices IsInRun call
  pub reads : AreLeftRead call script (Some run)
  pub archived : IsArchived (λ mark flushed. mark ≤ flushed) call drive script run

-- how many bytes the archive's device has, where the drive archives its run
abbrev pub archive_size : Unfused → Drive → Option ℕ
archive_size archive drive = if drive.archive then Some archive.entry.size else None

-- A run of the script was judged so on the store that was opened, which is read as it was: no line was played.
pub record IsUnplayed (call : LabCall) (command : Command) (drive : Drive) (misfit : Option Misfit) : Type 0 where
  pub script : List ScriptLine
  pub opened : Opened
  pub is_script : IsScriptFor command call.source call.source_now script
  pub opens : WhereToldAtEntry call (DevicesOpenAs opened)
  pub judged : misfit_on drive.log_only (archive_size call.archive drive) opened script ≡ misfit
  pub in_run : BothDevices IsInRun call
  pub reads : AreLeftRead call script None

-- a quantity of the script is the first that doesn't fit
abbrev pub IsMisfit : LabCall → Command → Misfit → Type 0
IsMisfit call command misfit = (drive : Drive) × (drive_of command ≡ Some drive) × IsUnplayed call command drive (Some misfit)

-- no script was read, for this cause, and nothing was written
abbrev pub IsUnscripted : LabCall → Command → Type 0 → Type 0
IsUnscripted call command Cause = (reads_script command ≡ true) × Cause × BothDevices IsUnwritten call

-- which command the archive's device ended: `restore`, or the run of a script that fits, for which no archive was begun
abbrev pub EndsBefore : LabCall → Command → Type 0
EndsBefore call (Restore to) = ⊤
EndsBefore call (Run drive) = (drive.archive ≡ true) × BothDevices IsUnfailed call × IsUnplayed call (Run drive) drive None
EndsBefore call command = ⊥

-- nothing is restored, for this cause, from what reads of the archive's device gave at entry
abbrev pub IsUnrestored : LabCall → Command → RestoreRefusal → Type 0
IsUnrestored call (Restore to) refusal = WhereArchiveTold call (λ disk. RefusesRestore disk.reads to refusal)
IsUnrestored call command refusal = ⊥

-- why the command isn't done
abbrev pub IsCauseOf : LabCall → Command → Fault → Type 0
IsCauseOf call command Memory = LeavesFailed call command
IsCauseOf call command (Script n) = IsUnscripted call command (IsBadLine call.source call.source_now n)
IsCauseOf call command Source = IsUnscripted call command (HasRisen call.source.faults call.source_now.faults)
IsCauseOf call command LogDevice =
    IsPastSource call command × IsDeviceFault command call.log × IsUnbegun call command × LeavesFailed call command
IsCauseOf call command DataDevice =
    IsPastSource call command × IsDeviceFault command call.store × IsUnbegun call command × LeavesFailed call command
IsCauseOf call command ArchiveDevice = HasRisen call.archive.entry.faults call.archive.now.faults × EndsBefore call command
IsCauseOf call command (Archive refusal) = IsUnrestored call command refusal
IsCauseOf call command (Store refusal) = IsPastSource call command × AreUnfailedFor command call × IsRefused call command refusal
IsCauseOf call command (Turns turns user) = AreTurnsSpent call command turns user
IsCauseOf call command (Fit misfit) =
    IsUnscripted call command (IsLongScript call.source misfit) ⊎ (BothDevices IsUnfailed call × IsMisfit call command misfit)
IsCauseOf call command _ = ⊥

-- both devices are long enough for these sizes
pub record AreLongEnough (shape : Shape) (log_size store_size : ℕ) : Type 0 where
  pub log_long : log_device_length shape ≤ log_size
  pub data_long : data_device_length shape ≤ store_size

-- The script fits the store that fresh devices open, its archive has room on a device that doesn't fail, and what a crash left is fair.
pub record CanPlay (call : LabCall) (drive : Drive) (script : List ScriptLine) : Type 0 where
  pub log : Disk
  pub store : Disk
  pub opened : Opened
  pub log_tells : call.log.entry.tells ≡ Some log
  pub store_tells : call.store.entry.tells ≡ Some store
  pub log_still : call.log.now.tells ≢ None
  pub store_still : call.store.now.tells ≢ None
  pub log_fresh : IsSettledAtEntry log call.log.entry.faults
  pub store_fresh : IsSettledAtEntry store call.store.entry.faults
  pub opens : Opens log.reads store.reads opened.shape opened.pages opened.end
  pub long : AreLongEnough opened.shape call.log.entry.size call.store.entry.size
  pub fits : misfit_on drive.log_only (archive_size call.archive drive) opened script ≡ None
  pub archive_unfailed : drive.archive ≡ true → HasRisen call.archive.entry.faults call.archive.now.faults → ⊥
  pub fair : IsLeftFair call opened

-- The source holds such a script.
pub record CanRun (call : LabCall) (drive : Drive) : Type 0 where
  pub text : List ℕ
  pub script : List ScriptLine
  pub source : call.source.left ≡ Some text
  pub short : length text ≤ MAX_SCRIPT
  pub is_script : script_of text ≡ Ok script
  pub plays : CanPlay call drive script

-- the devices hold a store that can be read
pub record CanRead (call : LabCall) : Type 0 where
  pub log : Disk
  pub store : Disk
  pub reading : Reading
  pub log_tells : call.log.entry.tells ≡ Some log
  pub store_tells : call.store.entry.tells ≡ Some store
  pub log_still : call.log.now.tells ≢ None
  pub store_still : call.store.now.tells ≢ None
  pub is_read : IsReading log.reads store.reads reading

-- the archive's device, which doesn't fail, holds an archive that reaches to the lsn
pub record CanRestore (call : LabCall) (to : ℕ) : Type 0 where
  pub archive : Disk
  pub n : ℕ
  pub end : ℕ
  pub pages : List Content
  pub tells : call.archive.entry.tells ≡ Some archive
  pub still : call.archive.now.tells ≢ None
  pub unfailed : HasRisen call.archive.entry.faults call.archive.now.faults → ⊥
  pub is_restored : IsRestored archive.reads to n end pages

-- the command can be done
abbrev pub IsPossible : LabCall → Command → Type 0
IsPossible call (Format page_size pages space log_blocks) =
    AreLongEnough (asked_shape page_size pages space log_blocks) call.log.entry.size call.store.entry.size
IsPossible call (Run drive) = CanRun call drive
IsPossible call (Crash drive stop_log stop_data pick workers) = CanRun call drive
IsPossible call (Recover workers) = CanRead call
IsPossible call (Dump why) = CanRead call
IsPossible call (Restore to) = CanRestore call to
IsPossible call (Gen seed users groups true max) = CanPlay call (drive_of_seed seed max) (generated_lines seed users groups)
IsPossible call (Gen seed users groups false max) = ⊤

-- what may keep a command from being done where nothing failed: want of memory, or spent turns, where its drive may spend them
abbrev pub MayKeepFrom : Command → Fault → Type 0
MayKeepFrom command Memory = ⊤
MayKeepFrom command (Turns turns user) = (drive : Drive) × (drive_of command ≡ Some drive) × MaySpend drive turns
MayKeepFrom command _ = ⊥

-- both devices were formatted: whatever a crash would leave is a new store
pub record IsFormatAnswer (call : LabCall) (shape : Shape) (text : List ℕ) : Type 0 where
  pub blank : WhereToldNow call (AreBlank shape)
  pub text_is : text ≡ format_text

-- the store was read
pub record IsReadOff (call : LabCall) (IsTextOf : Reading → List ℕ → Type 0) (text : List ℕ) : Type 0 where
  pub reading : Reading
  pub is_read : WhereToldAtEntry call (λ log store. IsReading log.reads store.reads reading)
  pub text_is : IsTextOf reading text

-- its listing, and where that is asked why no block is read after these of the log's content
pub record IsListing (call : LabCall) (why : Bool) (reading : Reading) (text : List ℕ) : Type 0 where
  pub stop : ℕ × Cause
  pub is_stop : (log : Disk) → call.log.entry.tells ≡ Some log → call.log.now.tells ≢ None → IsStop (layout_of reading.format reading.shape) reading.ckpt reading.views stop log.reads
  pub text_is : text ≡ dump_text (if why then Some stop else None) reading

-- this was restored for the lsn from what reads of the archive's device gave at entry
pub record IsRestoredText (call : LabCall) (to : ℕ) (text : List ℕ) : Type 0 where
  pub n : ℕ
  pub end : ℕ
  pub pages : List Content
  pub is_restored : WhereArchiveTold call (λ disk. IsRestored disk.reads to n end pages)
  pub text_is : text ≡ restored_text n end pages

-- A command that was done has this text to print.
abbrev pub IsAnswer : LabCall → Command → List ℕ → Type 0
IsAnswer call (Format page_size pages space log_blocks) text =
    IsFormatAnswer call (asked_shape page_size pages space log_blocks) text
IsAnswer call (Run drive) text = IsRunText call (Run drive) drive (IsReportWith (λ mark flushed. mark ≡ flushed) call drive) text
IsAnswer call (Crash drive stop_log stop_data pick workers) text = CrashSafe call drive stop_log stop_data pick workers text
IsAnswer call (Recover workers) text = IsReadOff call (λ reading text. text ≡ recover_text reading) text
IsAnswer call (Dump why) text = IsReadOff call (IsListing call why) text
IsAnswer call (Restore to) text = IsRestoredText call to text
IsAnswer call (Gen seed users groups true max) text =
    IsRunText call (Gen seed users groups true max) (drive_of_seed seed max) (IsSummaryText call) text
IsAnswer call (Gen seed users groups false max) text = text ≡ generated_text seed users groups

-- the sink took all of the text, or failed and took only a part
abbrev pub IsPutOut : List ℕ → SinkSeen → SinkSeen → Type 0
IsPutOut text sink sink_now =
    (sink_now.taken ≡ with_taken sink.taken text)
    ⊎ (HasRisen sink.faults sink_now.faults × TakesPart sink.taken text sink_now.taken)

-- the text was to be printed: the sink took all of it, and the status is 0, or failed and took only a part
abbrev pub IsTextPrinted : List ℕ → ℕ → SinkSeen → SinkSeen → Type 0
IsTextPrinted text status sink sink_now =
    ((status ≡ 0) × (sink_now.taken ≡ with_taken sink.taken text))
    ⊎ ((status ≡ status_of Sink) × HasRisen sink.faults sink_now.faults × TakesPart sink.taken text sink_now.taken)

-- the fault's line was to be printed after this text, and the status is the fault's whether or not the sink took it all
abbrev pub IsFaultPrinted : List ℕ → Fault → ℕ → SinkSeen → SinkSeen → Type 0
IsFaultPrinted text fault status sink sink_now = (status ≡ status_of fault) × IsPutOut (text ++ fault_line fault) sink sink_now

-- which device ended a run: the log device where more failed, and the archive's where no other did
abbrev pub EndsRun : LabCall → Fault → Type 0
EndsRun call LogDevice = HasRisen call.log.entry.faults call.log.now.faults × (0 < call.log.fuse.mid)
EndsRun call DataDevice =
    HasRisen call.store.entry.faults call.store.now.faults × (0 < call.store.fuse.mid) × (call.log.fuse.mid ≡ 0)
EndsRun call ArchiveDevice = HasRisen call.archive.entry.faults call.archive.now.faults × (mids call ≡ 0)
EndsRun call _ = ⊥

-- a device ended the run, which is reported before the fault's line
abbrev pub IsReported : LabCall → Command → List ℕ → Fault → Type 0
IsReported call (Run drive) text fault =
    IsRunText call (Run drive) drive (IsReportWith (λ mark flushed. mark ≤ flushed) call drive) text × EndsRun call fault × BothDevices IsUnfailedAside call
IsReported call command text fault = ⊥

-- WHAT THE COMMAND COMES TO: its text, where no device failed that keeps the command from it; or a report of the run that a device ended; or a fault alone, with its cause
abbrev pub IsOutcome : LabCall → Command → Outcome → Type 0
IsOutcome call command (outcome.Text text) = AreUnfailedFor command call × IsAnswer call command text
IsOutcome call command (outcome.Report text fault) = IsReported call command text fault
IsOutcome call command (outcome.Fault fault) = IsCauseOf call command fault

-- what is printed of it, and the status
abbrev pub IsOutcomePrinted : Outcome → ℕ → SinkSeen → SinkSeen → Type 0
IsOutcomePrinted (outcome.Text text) status sink sink_now = IsTextPrinted text status sink sink_now
IsOutcomePrinted (outcome.Report text fault) status sink sink_now = IsFaultPrinted text fault status sink sink_now
IsOutcomePrinted (outcome.Fault fault) status sink sink_now = IsFaultPrinted [] fault status sink sink_now

-- the command was done, or this may keep it from that
abbrev pub IsDoneOrKeptFrom : Command → Outcome → Type 0
IsDoneOrKeptFrom command (outcome.Text text) = ⊤
IsDoneOrKeptFrom command (outcome.Report text fault) = ⊥
IsDoneOrKeptFrom command (outcome.Fault fault) = MayKeepFrom command fault

-- WHAT THE OUTCOME SAYS of its call. Whatever it is, what is left of the store is accepted where the command runs a script, and a
-- device that tells in the end told at entry. A command that can be done is done where nothing failed, or want of
-- memory or spent turns kept it from that.
pub record EndsWith (call : LabCall) (command : Command) (outcome : Outcome) : Type 0 where
  pub means : IsOutcome call command outcome
  pub unread : reads_script command ≡ false → call.source_now ≡ call.source
  pub unwritten : leaves_devices command ≡ true → BothDevices IsUnwritten call
  pub left : runs_script command ≡ true → LeavesStore call
  pub tells : BothDevices (λ device. device.now.tells ≢ None → device.entry.tells ≢ None) call
  pub complete : IsPossible call command → (HasRisen call.source.faults call.source_now.faults → ⊥) → AreUnfailedFor command call
      → IsDoneOrKeptFrom command outcome

-- the archive's device was only read, and no other was called
abbrev pub OnlyReadsArchive : LabCall → Type 0
OnlyReadsArchive call =
    StillTells call.archive.entry.tells call.archive.now.tells × BothDevices (λ device. device.now ≡ device.entry) call

-- the archive's device is as it was, where a run is ended before its archive is begun
abbrev pub SparesArchive : Unfused → Outcome → Type 0
SparesArchive archive (outcome.Fault Memory) = ⊤
SparesArchive archive (outcome.Fault ArchiveDevice) = ⊤
SparesArchive archive (outcome.Fault (Turns turns user)) = ⊤
SparesArchive archive (outcome.Fault fault) = archive.now ≡ archive.entry
SparesArchive archive done = ⊤

-- this is so where the command comes to its text
abbrev pub WhereDone : Outcome → Type 0 → Type 0
WhereDone (outcome.Text text) P = P
WhereDone cut P = ⊤

-- The words ask for this command, which comes to an outcome that is printed. Where it comes to its text no call of the
-- archive's device answered an error.
pub record EndsCommand (call : LabCall) (archive_well : Type 0) (sink sink_now : SinkSeen) (status : ℕ)
    (command : Command) : Type 0 where
  pub asked : command_of call.words ≡ Some command
  pub outcome : Outcome
  pub ends : EndsWith call command outcome
  pub restores : (to : ℕ) → command ≡ Restore to → OnlyReadsArchive call
  pub spares : (drive : Drive) → command ≡ Run drive → SparesArchive call.archive outcome
  pub well : WhereDone outcome archive_well
  pub printed : IsOutcomePrinted outcome status sink sink_now

-- the words are no command, or there was no memory to read them, and nothing was done
pub record HasNoCommand (call : LabCall) (sink sink_now : SinkSeen) (status : ℕ) : Type 0 where
  pub fault : Fault
  pub fault_is : ((command_of call.words ≡ None) × (fault ≡ Words)) ⊎ (fault ≡ Memory)
  pub printed : IsFaultPrinted [] fault status sink sink_now
  pub unread : call.source_now ≡ call.source
  pub unwritten : BothDevices IsUnwritten call
  pub untouched : call.archive.now ≡ call.archive.entry
  pub left : (command : Command) → command_of call.words ≡ Some command → runs_script command ≡ true → LeavesStore call

-- The call had this sink, which is this now, and ended with this status. `archive_well` says that no call of the
-- archive's device answered an error.
pub record IsCallOf (call : LabCall) (archive_well : Type 0) (sink sink_now : SinkSeen) (status : ℕ) : Type 0 where
  pub way : HasNoCommand call sink sink_now status
      ⊎ ((command : Command) × EndsCommand call archive_well sink sink_now status command)
  pub reads_little : TakesAtMost (MAX_SCRIPT + PIECE) call.source.left call.source_now.left
