-- The store that a call opens, why its devices are refused, and how they are left.
-- WHAT IS TOLD OF A RUN, by a report, a summary or spent turns, always of one run, which is the drive's; what is left of the store,
-- whatever the status; and what is restored of what a run that is archived leaves of the archive's device.
use Rattle.std.specs.Prelude.{ℕ, ◌≡◌, ◌<◌, ◌≤◌, ◌⊎◌, List, Option, length, ◌%◌, ◌+◌, ◌^◌, true, [], slice_get, Some, None, IfSome, take, ◌≢◌}
use Rattle.model_base.specs.{run_shape, crc_of, HasRisen}
use Rattle.model_base.specs.declared.shape.Shape.{Shape}
use Rattle.model_device.specs.{IsImage, Disk}
use Rattle.model_log.specs.{log_device_length, groups_of, IsBoundary, stream_of, block_of}
use Rattle.model_parts.specs.{formatted_store}
use Rattle.model_page.specs.{data_device_length}
use Rattle.model_store.specs.{HasOldCopies, IsFair, IsFairLog, IsOrderly, IsReading, IsUnused, OpensUnused, Refuses, OpensOrderly, Reading}
use Rattle.model_store.specs.declared.refusal.Refusal.{Refusal}
use Rattle.model_store.specs.declared.refusal.Refusal.TheVariants.{SmallLog, SmallData}
use Rattle.model_script.specs.declared.script.ScriptLine.{ScriptLine}
use Rattle.model_theorem.specs.{Opened, Ran, ReadsPrefix, entries_of, misfit_on, IsOpenedBefore, IsRun, LosesOnlyByFailure}
use Rattle.std.specs.List.{AllByRecursion}
use Rattle.model_script.specs.declared.asked.Command.{Command}
use Rattle.model_script.specs.declared.asked.Drive.{Drive}
use Rattle.model_report.specs.{count_up_to, entry_spans, IsLeft, report_text, summary_text, wholes_of}
use Rattle.model_report.specs.declared.entry.Followed.{Followed}
use Rattle.redo_drive.specs.declared.drive.RunEnd.{RunEnd}
use Rattle.redo_drive.specs.declared.drive.RunEnd.TheVariants.{Done}
use Rattle.redo_lab.specs.Call.{LabCall, BothDevices, IsInRun, IsSettledAtEntry, WhereOpened, WhereToldAtEntry, WhereToldNow, mids, IsLeftFair, IsScriptFor}
use Rattle.redo_memdisk.specs.declared.fuse.Stage.TheVariants.{Before}
use Rattle.model_archive.specs.{IsFairArchive, newest_mark, RestoresUpTo}

-- the store is read as what is opened, and the data device has room for a run on it
pub record OpensReading (log_bytes data_bytes : List ℕ) (opened : Opened) : Type 0 where
  pub reading : Reading
  pub is_read : IsReading log_bytes data_bytes reading
  pub shape : opened.shape ≡ run_shape reading.shape
  pub pages : opened.pages ≡ reading.pages
  pub end : opened.end ≡ reading.end
  pub room : data_device_length opened.shape ≤ length data_bytes

-- Devices that hold this are opened as this: a new store, where the log device is unused, or what is read, in order or not.
abbrev pub DevicesOpenAs : Opened → Disk → Disk → Type 0
DevicesOpenAs opened log store =
    OpensUnused log.reads opened.shape opened.pages opened.end
    ⊎ ((IsUnused log.reads → ⊥) × OpensReading log.reads store.reads opened)

-- a device of this size is too short to be formatted with these sizes, and this is how long it should be
abbrev pub IsTooShort : Shape → (log_size store_size : ℕ) → Refusal → Type 0
IsTooShort shape log_size store_size (SmallLog n) =
    (log_size < log_device_length shape) × (n ≡ log_device_length shape)
IsTooShort shape log_size store_size (SmallData n) =
    (log_device_length shape ≤ log_size) × (store_size < data_device_length shape) × (n ≡ data_device_length shape)
IsTooShort shape log_size store_size _ = ⊥

-- what reads of the two devices give is refused for this cause
abbrev pub AreRefused : Refusal → Disk → Disk → Type 0
AreRefused refusal log store = Refuses log.reads store.reads refusal

-- every image of the two devices is read as a store that was just formatted with these sizes, and is in order
abbrev pub AreBlank : Shape → Disk → Disk → Type 0
AreBlank shape log store =
    (log_bytes data_bytes : List ℕ) → IsImage log log_bytes → IsImage store data_bytes
    → IsOrderly log_bytes data_bytes (formatted_store shape)

-- THEY HOLD A STORE: every fair image of the two devices is read, and no copy in a slot is ahead of its page, so that it may be
-- opened again.
abbrev pub AreAccepted : Opened → Disk → Disk → Type 0
AreAccepted opened log store =
    (log_bytes data_bytes : List ℕ) → IsFairLog log log_bytes → IsFair opened.shape store data_bytes
    → (reading : Reading) × IsReading log_bytes data_bytes reading × HasOldCopies data_bytes reading

-- and it is read as the opened pages, with the first groups of this run of the script, if there was one, which reach every
-- flushed one
abbrev pub AreReadAsPrefix : List ScriptLine → Opened → Option Ran → Disk → Disk → Type 0
AreReadAsPrefix script opened run log store =
    (log_bytes data_bytes : List ℕ) → IsFairLog log log_bytes → IsFair opened.shape store data_bytes
    → ReadsPrefix script opened run log_bytes data_bytes

-- The run took place: of the whole script, which fits the store that was opened; a legal history; and it is the drive's, as are the
-- followers of which this is told.
pub record HasRunScript (call : LabCall) (command : Command) (drive : Drive) (opened : Opened) (script : List ScriptLine) (run : Ran)
    (follows : List Followed) (end : RunEnd) (log_met store_met : Option Disk) : Type 0 where
  pub is_script : IsScriptFor command call.source call.source_now script
  pub opens : WhereToldAtEntry call (DevicesOpenAs opened)
  pub fits : misfit_on drive.log_only None opened script ≡ None
  pub in_lsn_order : IsRun script opened run
  pub driven : call.drives drive opened script run follows end log_met store_met

-- Opening came to its end just where a run is told: the log device shows it, where both told and open a store.
abbrev pub IsOpenedFirst : LabCall → Option Disk → Option Ran → Type 0
IsOpenedFirst call log_met run = (store : Opened) → WhereOpened call store
    ((armed_from disk : Disk) → call.log.armed_from ≡ Some armed_from → log_met ≡ Some disk → IsOpenedBefore store.shape armed_from disk run)

-- the device failed on which the run is archived
abbrev pub HasArchiveFailed : LabCall → Drive → Type 0
HasArchiveFailed call drive = (drive.archive ≡ true) × HasRisen call.archive.entry.faults call.archive.now.faults

-- The marks of a run in threads are read, where both told and open a store and no call failed: what reads give of the
-- devices that it left is a store whose log ends at WRITE, and whose newest checkpoint is CKPT.
abbrev pub AreMarksRead : LabCall → Drive → Option Ran → (log_met store_met : Option Disk) → Type 0
AreMarksRead call drive run log_met store_met = IfSome run (λ run. drive.threads ≡ true → mids call ≡ 0 → (HasArchiveFailed call drive → ⊥)
    → (opened : Opened) → WhereOpened call opened ((log store : Disk) → log_met ≡ Some log → store_met ≡ Some store
    → (reading : Reading) × IsReading log.reads store.reads reading
    × (reading.end ≡ run.marks.write) × (reading.ckpt ≡ run.marks.ckpt)))

-- What is told of a follower of a run: its LSN stands between groups, at or below FLUSHED and not below CKPT. It has handed on the
-- groups that end at or below that, in lsn order: they are so many, and their joined texts have this checksum.
pub record IsFollowed (script : List ScriptLine) (space : ℕ) (run : Ran) (followed : Followed) : Type 0 where
  pub place : IsBoundary run.start (entry_spans run.entries) followed.lsn
  pub flushed : followed.lsn ≤ run.marks.flushed
  pub checkpoint : run.marks.ckpt ≤ followed.lsn
  pub count : followed.count ≡ count_up_to followed.lsn run.entries % 2 ^ 64
  pub crc : followed.crc ≡ crc_of (stream_of (groups_of (take (count_up_to followed.lsn run.entries) (wholes_of script space run.entries))))

-- The followers of a run are as many as are asked for, numbered from 1; and each is told so, where both told and open a store.
pub record AreFollowed (call : LabCall) (drive : Drive) (script : List ScriptLine) (run : Ran) (follows : List Followed)
    (log_met store_met : Option Disk) : Type 0 where
  pub count : length follows ≡ drive.followers
  pub numbered : (i : ℕ) (followed : Followed) → slice_get follows i ≡ Some followed → followed.number ≡ i + 1
  pub each : (opened : Opened) → WhereOpened call opened ((log store : Disk) → log_met ≡ Some log → store_met ≡ Some store
      → AllByRecursion (IsFollowed script opened.shape.space run) follows)

-- the followers of a run, or none where none is told
abbrev pub AreToldOf : LabCall → Drive → List ScriptLine → Option Ran → List Followed → (log_met store_met : Option Disk) → Type 0
AreToldOf call drive script None follows log_met store_met = follows ≡ []
AreToldOf call drive script (Some run) follows log_met store_met = AreFollowed call drive script run follows log_met store_met

-- Something is lost of it only where a device failed since its fuse was armed, or the device on which it is archived.
abbrev pub LosesOnlyBy : LabCall → Drive → Option Ran → List (ℕ × ℕ) → Type 0
LosesOnlyBy call drive run left = LosesOnlyByFailure (mids call) run left ⊎ HasArchiveFailed call drive

-- The run, if opening wasn't stopped, and what is left of the script.
pub record IsAccount (call : LabCall) (command : Command) (drive : Drive) (opened : Opened) (script : List ScriptLine) (run : Option Ran)
    (left : List (ℕ × ℕ)) (follows : List Followed) (log_met store_met : Option Disk) : Type 0 where
  pub is_script : IsScriptFor command call.source call.source_now script
  pub ran : IfSome run (λ run. HasRunScript call command drive opened script run follows Done log_met store_met)
  pub left_is : IsLeft script (entries_of run) left
  pub loses : LosesOnlyBy call drive run left
  pub marks : AreMarksRead call drive run log_met store_met
  pub followers : AreToldOf call drive script run follows log_met store_met
  pub opened_first : IsOpenedFirst call log_met run

-- Every fair image of the two devices that are left is read as a prefix of this run, or of none, where both told and open a store.
abbrev pub AreLeftRead : LabCall → List ScriptLine → Option Ran → Type 0
AreLeftRead call script run = (store : Opened) → WhereOpened call store (WhereToldNow call (AreReadAsPrefix script store run))

-- A run whose devices aren't crashed: they are as it left them, and every fair image of them is read as a prefix of it.
pub record IsRunText (call : LabCall) (command : Command) (drive : Drive) (IsTextOf : List ScriptLine → Ran → List (ℕ × ℕ) → List Followed → List ℕ → Type 0)
    (text : List ℕ) : Type 0 where
  pub opened : Opened
  pub script : List ScriptLine
  pub run : Ran
  pub left : List (ℕ × ℕ)
  pub follows : List Followed
  pub account : IsAccount call command drive opened script (Some run) left follows call.log.now.tells call.store.now.tells
  pub in_run : BothDevices IsInRun call
  pub reads : AreLeftRead call script (Some run)
  pub text_is : IsTextOf script run left follows text

-- the summary of it, and of what the devices are read as
abbrev pub IsSummaryText : LabCall → List ScriptLine → Ran → List (ℕ × ℕ) → List Followed → List ℕ → Type 0
IsSummaryText call script run left follows text =
    (reading : Reading) × WhereToldNow call (λ log store. IsReading log.reads store.reads reading)
    × (text ≡ summary_text (length run.entries) run.marks.flushed run.marks.ckpt reading.pages)

-- the store was in order at entry, or the log device was unused and formatting answered Ok, since the fuses were armed after it
abbrev pub IsOrderlyOrNew : LabCall → Opened → Disk → Disk → Type 0
IsOrderlyOrNew call opened log store =
    OpensOrderly log.reads store.reads opened.shape opened.pages opened.end
    ⊎ (OpensUnused log.reads opened.shape opened.pages opened.end × (call.log.fuse.stage ≢ Before))

-- Each fair image of the two devices is accepted, and may be opened again.
abbrev pub LeavesStore : LabCall → Type 0
LeavesStore call = (opened : Opened) → WhereToldAtEntry call (λ log store.
    IsSettledAtEntry log call.log.entry.faults → IsSettledAtEntry store call.store.entry.faults → IsOrderlyOrNew call opened log store
    → IsLeftFair call opened → WhereToldNow call (AreAccepted opened))

-- THE ARCHIVE OF A RUN: for each lsn from its start up to the newest mark on the image the opened pages are restored, with exactly
-- the groups of the run applied that end at or below the lsn. No checkpoint is above the block of the mark.
pub record IsArchiveOf (IsUpTo : (mark flushed : ℕ) → Type 0) (script : List ScriptLine) (opened : Opened) (run : Ran) (image : List ℕ) : Type 0 where
  pub number : ℕ
  pub mark : ℕ
  pub newest : newest_mark run.start image ≡ Some (number, mark)
  pub up_to : IsUpTo mark run.marks.flushed
  pub restores : RestoresUpTo run.start opened.pages (wholes_of script opened.shape.space run.entries) mark image
  pub checkpoint : run.marks.ckpt ≤ block_of mark

-- A drive that archives its run leaves it so on every fair image of the archive's device, where that tells, and both devices told and
-- open a store.
abbrev pub IsArchived : (IsUpTo : (mark flushed : ℕ) → Type 0) → LabCall → Drive → List ScriptLine → Ran → Type 0
IsArchived IsUpTo call drive script run = drive.archive ≡ true → (opened : Opened) → WhereOpened call opened
    ((disk : Disk) (image : List ℕ) → call.archive.now.tells ≡ Some disk → IsFairArchive disk image → IsArchiveOf IsUpTo script opened run image)

-- the report of a run, and its archive, if it has one
abbrev pub IsReportWith : (IsUpTo : (mark flushed : ℕ) → Type 0) → LabCall → Drive → List ScriptLine → Ran → List (ℕ × ℕ) → List Followed → List ℕ → Type 0
IsReportWith IsUpTo call drive script run left follows text =
    (text ≡ report_text (Some run.start) run.entries left (Some run.marks) follows None) × IsArchived IsUpTo call drive script run
