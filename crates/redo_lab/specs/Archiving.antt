-- How a run is archived: its archive is begun, what a drive leaves of it, and what is appended to that.
use Rattle.std.specs.Prelude.{◌≡◌, ◌≤◌, ◌⊎◌, List, None, Option, Some, ⊤}
use Rattle.std.specs.List.{AllByRecursion}
use Rattle.model_base.specs.{HasRisen}
use Rattle.model_log.specs.{block_of, groups_of}
use Rattle.model_report.specs.{wholes_of}
use Rattle.model_report.specs.declared.fault.Fault.{Fault}
use Rattle.model_report.specs.declared.fault.Fault.TheVariants.{ArchiveDevice, Memory}
use Rattle.model_script.specs.declared.script.ScriptLine.{ScriptLine}
use Rattle.model_store.specs.{IsStorable}
use Rattle.model_theorem.specs.{Opened, Ran}
use Rattle.redo_archive.specs.{IsBegun, PartArchives}
use Rattle.redo_archive.specs.Part.{Part}
use Rattle.redo_disk.specs.{Call, Seen}
use Rattle.redo_disk.specs.declared.error.DevError.{DevError}
use Rattle.redo_drive.specs.declared.drive.Driven.{Driven}
use Rattle.redo_drive.specs.declared.drive.RunEnd.TheVariants.{Done}
use Rattle.redo_finish.specs.{Finishes}
use Rattle.redo_logdev.specs.Part as log
use Rattle.redo_store.specs.declared.opened.Opened as store
use Rattle.redo_lab.specs.Call.{Unfused, unfused}

-- why no archive is begun on a device that has room: it failed, or memory ran out
abbrev pub IsUnbegunBy : {A : Type 0} → (A → Seen) → A → Fault → A → Type 0
IsUnbegunBy seen device fault left =
    ((fault ≡ ArchiveDevice) × HasRisen (seen device).faults (seen left).faults) ⊎ (fault ≡ Memory)

-- an archive is begun on a device, if one was handed on
abbrev pub AreBegun : {L D A : Type 0} → (A → Seen) → (A → Call → A → Type 0) → store.Opened L D → Option A
    → Option (Part A) → Type 0
AreBegun seen gives opened None None = ⊤
AreBegun seen gives opened (Some device) (Some part) =
    IsBegun seen gives opened.shape opened.start opened.pages device part
AreBegun seen gives opened device part = ⊥

-- none is, though a device was handed on
abbrev pub AreUnbegunBy : {A : Type 0} → (A → Seen) → Option A → Fault → A → Type 0
AreUnbegunBy seen None fault left = ⊥
AreUnbegunBy seen (Some device) fault left = IsUnbegunBy seen device fault left

-- what a call of the archive's device answered that failed, and that device
abbrev pub failed_of : {A : Type 0} → Option (Part A) → Option DevError
failed_of None = None
failed_of (Some part) = part.failed

abbrev pub device_of : {A : Type 0} → Option (Part A) → Option A
device_of None = None
device_of (Some part) = Some part.dev

-- a run, with the log part from which blocks were read back
abbrev pub read_back : {L D : Type 0} → Driven L D → log.Part L → Driven L D
read_back driven part = record driven { closed = record driven.closed { log = part } }

-- WHAT A RUN'S ARCHIVE LACKED WAS APPENDED: the log part was read alone. Where all users had ended and neither part failed, the
-- archive has the run up to FLUSHED then.
pub record HasFinished {L D A : Type 0} (log_seen : L → Seen) (gives : L → Call → L → Type 0) (seen : A → Seen)
    (arch_gives : A → Call → A → Type 0) (before after : Driven L D) (old new : Part A) : Type 0 where
  pub read : after ≡ read_back before after.closed.log
  pub finishes : Finishes log_seen gives seen arch_gives before.closed.marks.flushed before.closed.log
      after.closed.log old new
  pub done : before.ended ≡ Done → after.closed.log.failed ≡ None → new.failed ≡ None
      → new.marks.mark ≡ before.closed.marks.flushed

-- the same of a run that has an archive; of another there is nothing to be done
abbrev pub HaveFinished : {L D A : Type 0} → (L → Seen) → (L → Call → L → Type 0) → (A → Seen) → (A → Call → A → Type 0)
    → (before after : Driven L D) → (old new : Option (Part A)) → Type 0
HaveFinished log_seen gives seen arch_gives before after None None = after ≡ before
HaveFinished log_seen gives seen arch_gives before after (Some old) (Some new) =
    HasFinished log_seen gives seen arch_gives before after old new
HaveFinished log_seen gives seen arch_gives before after old new = ⊥

-- WHAT A DRIVE LEAVES OF AN ARCHIVE that was begun for its run: the groups of the run over the opened pages, up to a mark that is at
-- most FLUSHED, as is the one asked for last; and no checkpoint is above the block of the mark. Each group fits the store.
pub record ArchivesRan {A : Type 0} (seen : A → Seen) (script : List ScriptLine) (opened : Opened) (run : Ran) (part : Part A) : Type 0 where
  pub shape : part.shape ≡ opened.shape
  pub start : part.start ≡ run.start
  pub archives : PartArchives seen opened.pages (wholes_of script opened.shape.space run.entries) part
  pub good : AllByRecursion (IsStorable opened.shape) (groups_of (wholes_of script opened.shape.space run.entries))
  pub later : part.marks.mark ≤ part.marks.asked
  pub flushed : part.marks.asked ≤ run.marks.flushed
  pub checkpoint : run.marks.ckpt ≤ block_of part.marks.mark

-- what is seen from outside of a device that was handed on for a run to be archived, if one was
abbrev pub IsUnfused : {A : Type 0} → (A → Seen) → (device now : Option A) → Unfused → Type 0
IsUnfused seen None None archive = ⊤
IsUnfused seen (Some device) (Some now) archive = archive ≡ unfused seen device now
IsUnfused seen device now archive = ⊥
