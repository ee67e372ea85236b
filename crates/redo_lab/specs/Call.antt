-- A call of `lab`, as it is seen from outside: what its words ask for, the script that the command runs, which is what comes of
-- reading it off a source, or the script of a seed; and its devices.
-- A call, by what it was handed and what it gave back; and what is told of a run by its drive, and of its followers, whose
-- receivers keep count: a new drive is one more case of `TellsOf`.
use Rattle.std.specs.Prelude.{ℕ, ◌≤◌, Bool, true, false, not, is_some, List, Option, Some, None, option_map, ◌≡◌, ◌<◌, [], length, Ok, Err, IfSome, ◌≢◌, ◌+◌, ⊤}
use Rattle.model_base.specs.declared.limits.TheConstants.{MAX_SCRIPT}
use Rattle.model_script.specs.{asked_of, generated_lines, script_of}
use Rattle.model_script.specs.declared.asked.Command.{Command}
use Rattle.model_script.specs.declared.asked.Command.TheVariants.{Format, Run, Crash, Restore, Gen}
use Rattle.model_script.specs.declared.asked.Drive.{Drive}
use Rattle.redo_machine.specs.declared.drive.Turns.{Turns}
use Rattle.model_script.specs.declared.misfit.Misfit.{Misfit}
use Rattle.model_script.specs.declared.misfit.Quantity.TheVariants as quantity
use Rattle.model_script.specs.declared.script.ScriptLine.{ScriptLine}
use Rattle.redo_io.specs.{SourceSeen}
use Rattle.model_base.specs.{default_shape, last_count, crc_of}
use Rattle.model_base.specs.declared.shape.Shape.{Shape}
use Rattle.model_device.specs.{HasOneImage, IsValid, Disk}
use Rattle.model_report.specs.declared.entry.Followed.{Followed}
use Rattle.model_store.specs.{IsFair, IsFairLog, Opens}
use Rattle.model_theorem.specs.{Opened, Ran}
use Rattle.redo_drive.specs.declared.drive.RunEnd.{RunEnd}
use Rattle.redo_disk.specs.{Call, EndWith, MakesCalls, Seen, StillTells}
use Rattle.redo_memdisk.specs.{armed_from, fuse_of, inner_of, armed_at, entry_of, CallsThrough, seen_through}
use Rattle.redo_memdisk.specs.declared.fuse.Fuse.{Fuse}
use Rattle.redo_memdisk.specs.declared.fused.Fused.{Fused}
use Rattle.redo_memdisk.specs.declared.fuse.Stage.TheVariants.{Stopping}
use Rattle.model_core.specs.{Given}
use Rattle.redo_follow.specs.Following.{Following}
use Rattle.redo_follow.specs.{HasTally, joined_given, Kept}
use Rattle.std.specs.List.{AllZip}
use Rattle.model_core.specs.States as model
use Rattle.redo_disk.specs as device
use Rattle.model_log.specs.{start_after}
use Rattle.redo_machine.specs.{RunsByTurns}
use Rattle.redo_drive.specs.{followers_in, views_of}
use Rattle.redo_drive.specs.declared.actor.Actor.{Actor}
use Rattle.redo_drive.specs.declared.drive.Driven.{Driven}
use Rattle.redo_store.specs.{IsRunnable}
use Rattle.redo_store.specs.declared.opened.Opened.{Opened as OpenedStore}
use Rattle.redo_threads.specs.InThreads.{RunsInThreads}

abbrev pub turns_of : Drive → Turns
turns_of drive = record { seed = drive.seed; max = drive.max; log_only = drive.log_only }

abbrev pub archives : Command → Bool
archives (Run drive) = drive.archive
archives command = false

-- the command that the words ask for, if they ask for one that there is
abbrev pub command_of : List (List ℕ) → Option Command
command_of words = option_map (λ asked. asked.command) (asked_of words)

-- how `gen` runs the script of a seed: by the turns of the same seed
abbrev pub drive_of_seed : (seed max : ℕ) → Drive
drive_of_seed seed max = record { seed = seed; max = max; threads = false; log_only = false; own_writes = false; followers = 0; archive = false }

-- how the command runs a script, if it runs one
abbrev pub drive_of : Command → Option Drive
drive_of (Run drive) = Some drive
drive_of (Crash drive stop_log stop_data pick workers) = Some drive
drive_of (Gen seed users groups true max) = Some (drive_of_seed seed max)
drive_of command = None

abbrev pub runs_script : Command → Bool
runs_script command = is_some (drive_of command)

-- the command reads its script off the source
abbrev pub reads_script : Command → Bool
reads_script (Run drive) = true
reads_script (Crash drive stop_log stop_data pick workers) = true
reads_script command = false

-- the command leaves both devices as they are
abbrev pub leaves_devices : Command → Bool
leaves_devices (Run drive) = false
leaves_devices (Crash drive stop_log stop_data pick workers) = false
leaves_devices (Format page_size pages space log_blocks) = false
leaves_devices (Gen seed users groups run max) = not run
leaves_devices command = true

-- the command calls the archive's device, if there is one: `restore`, and a run that is archived
abbrev pub calls_archive : Option Command → Bool
calls_archive (Some (Restore to)) = true
calls_archive (Some command) = archives command
calls_archive None = false

-- all that the source had left was this text, and none is left, where it tells; a script has no more bytes
pub record IsTextOf (source source_now : SourceSeen) (text : List ℕ) : Type 0 where
  pub all_read : IfSome source.left (λ left. (text ≡ left) × (source_now.left ≡ Some []))
  pub short : length text ≤ MAX_SCRIPT

-- a text was read, and this is the number of its first line that is no part of a script
pub record IsBadLine (source source_now : SourceSeen) (n : ℕ) : Type 0 where
  pub text : List ℕ
  pub read : IsTextOf source source_now text
  pub is_bad : script_of text ≡ Err n

-- the source had more bytes than a script may have, which is the number that is printed
pub record IsLongScript (source : SourceSeen) (misfit : Misfit) : Type 0 where
  pub quantity : misfit.quantity ≡ quantity.Script
  pub number : misfit.number ≡ MAX_SCRIPT
  pub long : IfSome source.left (λ text. MAX_SCRIPT < length text)

-- what was read is this script
pub record IsScriptRead (source source_now : SourceSeen) (script : List ScriptLine) : Type 0 where
  pub text : List ℕ
  pub read : IsTextOf source source_now text
  pub is_script : script_of text ≡ Ok script

-- THE SCRIPT THAT THE COMMAND RUNS: what was read off the source, or the lines of the seed.
abbrev pub IsScriptFor : Command → (source source_now : SourceSeen) → List ScriptLine → Type 0
IsScriptFor (Run drive) source source_now script = IsScriptRead source source_now script
IsScriptFor (Crash drive stop_log stop_data pick workers) source source_now script = IsScriptRead source source_now script
IsScriptFor (Gen seed users groups true max) source source_now script = script ≡ generated_lines seed users groups
IsScriptFor command source source_now script = ⊥

-- the sizes that the words of `format` ask for
abbrev pub asked_shape : (page_size pages space log_blocks : ℕ) → Shape
asked_shape page_size pages space log_blocks =
    record default_shape { page_size = page_size; pages = pages; space = space; log_blocks = log_blocks }

-- One device of a call: as it was handed in, and as it is now behind its fuse; and what it meant when the fuse was armed, where it
-- told.
pub record Guarded : Type 0 where
  pub entry : Seen
  pub now : Seen
  pub fuse : Fuse
  pub armed_from : Option Disk

-- the device that was handed in, and is given back behind its fuse, as both are seen from outside
abbrev pub guarded : {D : Type 0} → (D → Seen) → D → Fused D → Guarded
guarded seen device fused = record { entry = seen device; now = seen (inner_of fused); fuse = fuse_of fused; armed_from = armed_from seen fused }

-- The archive's device of a call, which has no fuse: as it was handed in, and as it is now.
pub record Unfused : Type 0 where
  pub entry : Seen
  pub now : Seen

-- what is seen from outside of the device that was handed in, and is given back
abbrev pub unfused : {A : Type 0} → (A → Seen) → A → A → Unfused
unfused seen device now = record { entry = seen device; now = seen now }

-- the archive's device went from the one to the other by calls of which none answered an error
abbrev pub IsWellCalled : {A : Type 0} → (A → Call → A → Type 0) → A → A → Type 0
IsWellCalled gives device now = MakesCalls gives device now (EndWith None)

-- What a call was handed, and what has become of it. `drives` says that the run of this script on this opened store is the one to
-- which the drive leads, that this is told of the followers that it leaves, that it ended so, and what both devices meant then: the
-- one place that knows of drives.
pub record LabCall : Type 1 where
  pub words : List (List ℕ)
  pub source : SourceSeen
  pub source_now : SourceSeen
  pub log : Guarded
  pub store : Guarded
  pub archive : Unfused
  pub drives : Drive → Opened → List ScriptLine → Ran → List Followed → RunEnd → Option Disk → Option Disk → Type 0

-- where both devices told what they mean when they were handed in, and tell to the end, this holds of the two
abbrev pub WhereToldAtEntry : LabCall → (Disk → Disk → Type 0) → Type 0
WhereToldAtEntry call P = (log store : Disk) → call.log.entry.tells ≡ Some log → call.store.entry.tells ≡ Some store
    → call.log.now.tells ≢ None → call.store.now.tells ≢ None → P log store

-- and where they tell what they mean now
abbrev pub WhereToldNow : LabCall → (Disk → Disk → Type 0) → Type 0
WhereToldNow call P = (log store : Disk) → call.log.now.tells ≡ Some log → call.store.now.tells ≡ Some store → P log store

-- where the archive's device told what it means when it was handed in, and tells to the end, this holds of it
abbrev pub WhereArchiveTold : LabCall → (Disk → Type 0) → Type 0
WhereArchiveTold call P = (disk : Disk) → call.archive.entry.tells ≡ Some disk → call.archive.now.tells ≢ None → P disk

-- at entry a crash would leave what reads give, and the count of faults can still rise
pub record IsSettledAtEntry (at_entry : Disk) (faults : ℕ) : Type 0 where
  pub valid : IsValid at_entry
  pub one_image : HasOneImage at_entry at_entry.reads
  pub can_count : faults < last_count

-- both told at entry, were settled, and open this store, which is new or in order
abbrev pub WhereOpened : LabCall → Opened → Type 0 → Type 0
WhereOpened call opened P = WhereToldAtEntry call (λ log store.
    IsSettledAtEntry log call.log.entry.faults → IsSettledAtEntry store call.store.entry.faults
    → Opens log.reads store.reads opened.shape opened.pages opened.end → P)

-- what a crash in the call left of the device is so
abbrev pub LeavesFair : Guarded → (Disk → List ℕ → Type 0) → Type 0
LeavesFair device IsFairOf = (pick : ℕ) (from left : Disk) → device.fuse.pick ≡ Some pick → device.now.crashed_from ≡ Some from
    → device.now.tells ≡ Some left → IsFairOf from left.reads

-- what a crash in the call left of the two devices is fair
pub record IsLeftFair (call : LabCall) (opened : Opened) : Type 0 where
  pub log : LeavesFair call.log IsFairLog
  pub store : LeavesFair call.store (IsFair opened.shape)

abbrev pub BothDevices : (Guarded → Type 0) → LabCall → Type 0
BothDevices P call = P call.log × P call.store

-- no call answered that the device failed; none but from the arming to the crash
abbrev pub IsUnfailed : Guarded → Type 0
IsUnfailed device = (device.fuse.early ≡ 0) × (device.fuse.mid ≡ 0) × (device.fuse.late ≡ 0)

abbrev pub IsUnfailedAside : Guarded → Type 0
IsUnfailedAside device = (device.fuse.early ≡ 0) × (device.fuse.late ≡ 0)

-- In a crash a failure from the arming to the crash is no reason not to be done.
abbrev pub AreUnfailedFor : Command → LabCall → Type 0
AreUnfailedFor (Crash drive stop_log stop_data pick workers) call = BothDevices IsUnfailedAside call
AreUnfailedFor command call = BothDevices IsUnfailed call

-- how many calls failed from the arming to the crash
abbrev pub mids : LabCall → ℕ
mids call = call.log.fuse.mid + call.store.fuse.mid

-- the device means what it meant, if it still tells, and nothing was written or synced
abbrev pub IsUnwritten : Guarded → Type 0
IsUnwritten device = StillTells device.entry.tells device.now.tells × (device.fuse.changes ≡ 0)

-- both devices mean what they meant, where both told
abbrev pub HaveSameContents : LabCall → Type 0
HaveSameContents call = WhereToldAtEntry call (λ log store. BothDevices (λ device. device.now.tells ≡ device.entry.tells) call)

-- the device's fuse was armed, and the device wasn't crashed
abbrev pub IsInRun : Guarded → Type 0
IsInRun device = device.fuse.stage ≡ Stopping

-- this is told of it: what its receiver keeps, and the place up to which it has followed
pub record IsToldOf (follower : Following Kept) (followed : Followed) : Type 0 where
  pub number : followed.number ≡ follower.state.number
  pub lsn : followed.lsn ≡ follower.state.place
  pub count : followed.count ≡ follower.receiver.count
  pub crc : (got : List Given) → HasTally follower.receiver got → followed.crc ≡ crc_of (joined_given got)

-- the store stands opened on both devices, as the theorem has it, and a run can start on it
pub record IsOpenedAt {L D : Type 0} (opened : Opened) (store : OpenedStore L D) : Type 0 where
  pub shape : store.shape ≡ opened.shape
  pub pages : store.pages ≡ opened.pages
  pub start : store.start ≡ start_after opened.end
  pub runnable : IsRunnable store

-- what the drive tells of the actors that it leaves, on devices behind their fuses: by turns, those of the seed, at most as many as
-- are allowed, of users that write for themselves if they are to; or in threads, by which no turns are counted
abbrev pub TellsOf : {L D : Type 0} → (threads own_writes : Bool) → (L → Seen) → (L → device.Call → L → Type 0) → (D → Seen) → (D → device.Call → D → Type 0)
    → Drive → OpenedStore (Fused L) (Fused D) → List ScriptLine → List model.Actor → Driven (Fused L) (Fused D) → Type 0
TellsOf false own_writes log_seen log_gives data_seen data_gives drive store script actors driven =
    RunsByTurns (seen_through log_seen) (CallsThrough log_seen log_gives) (seen_through data_seen) (CallsThrough data_seen data_gives)
    own_writes store script (turns_of drive)
    (record { log_only = drive.log_only; archive = drive.archive; followers = drive.followers }) actors driven
TellsOf true own_writes log_seen log_gives data_seen data_gives drive store script actors driven =
    RunsInThreads store script drive.log_only actors driven

-- It is one device behind one fuse: handed in once, and armed once, with this limit.
pub record IsSameFused {D : Type 0} (was now : Fused D) : Type 0 where
  pub entry : entry_of now ≡ entry_of was
  pub armed : armed_at now ≡ armed_at was
  pub limit : (fuse_of now).limit ≡ (fuse_of was).limit

-- On the devices given back, which meant this then, the drive led from the opened store to this end, and left this run; and this is
-- told of the followers among the actors that it left.
pub record IsDriven {L D : Type 0} (log_seen : L → Seen) (log_gives : L → device.Call → L → Type 0) (data_seen : D → Seen) (data_gives : D → device.Call → D → Type 0)
    (log_now : Fused L) (data_now : Fused D) (drive : Drive) (opened : Opened) (script : List ScriptLine)
    (run : Ran) (follows : List Followed) (end : RunEnd) (log_met store_met : Option Disk) : Type 0 where
  pub store : OpenedStore (Fused L) (Fused D)
  pub is_opened : IsOpenedAt opened store
  pub opened_on : IsSameFused store.log.dev log_now × IsSameFused store.store.dev data_now
  pub driven : Driven (Fused L) (Fused D)
  pub driven_on : IsSameFused driven.closed.log.dev log_now × IsSameFused driven.closed.store.dev data_now
  pub actors : List (Actor Kept)
  pub told : TellsOf drive.threads drive.own_writes log_seen log_gives data_seen data_gives drive store script (views_of actors) driven
  pub ends : driven.ended ≡ end
  pub run_is : run ≡ record { start = store.start; entries = driven.closed.history; marks = driven.closed.marks }
  pub follows_are : AllZip IsToldOf (followers_in actors) follows
  pub log_is : StillTells (log_seen driven.closed.log.dev.inner).tells log_met
  pub store_is : StillTells (data_seen driven.closed.store.dev.inner).tells store_met

-- the devices behind the two fuses are those that were handed in, with these fuses all along
pub record AreOf {L D : Type 0} (log : L) (store : D) (log_now : Fused L) (data_now : Fused D) : Type 0 where
  pub log_device : entry_of log_now ≡ log
  pub data_device : entry_of data_now ≡ store

-- What a call was handed beside its two devices: its words, the archive's device and its source, with what became of
-- the two.
pub record Handed : Type 0 where
  pub words : List (List ℕ)
  pub archive : Unfused
  pub source : SourceSeen
  pub source_now : SourceSeen

abbrev pub handed_of : List (List ℕ) → Unfused → (source source_now : SourceSeen) → Handed
handed_of words archive source source_now =
    record { words = words; archive = archive; source = source; source_now = source_now }

-- the call that was handed this, and these devices, which are these now
abbrev pub call_on : {L D : Type 0} → (L → Seen) → (L → device.Call → L → Type 0) → (D → Seen)
    → (D → device.Call → D → Type 0) → Handed → L → D → Fused L → Fused D → LabCall
call_on log_seen log_gives data_seen data_gives handed log store log_now data_now = record {
  words = handed.words;
  source = handed.source;
  source_now = handed.source_now;
  log = guarded log_seen log log_now;
  store = guarded data_seen store data_now;
  archive = handed.archive;
  drives = IsDriven log_seen log_gives data_seen data_gives log_now data_now;
}
