-- What every drive owes: of a run that came so far, that both devices hold it; and where all its users have ended, that between
-- the opened store and the crash, or the report, stands a closed run.
use Rattle.std.specs.Prelude.{ℕ, ◌≤◌, List, Some}
use Rattle.model_base.specs.declared.limits.TheConstants.{LSN_LIMIT}
use Rattle.model_log.specs.declared.group.Whole.{Whole}
use Rattle.model_device.specs.{Disk}
use Rattle.model_script.specs.declared.script.ScriptLine.{ScriptLine}
use Rattle.model_report.specs.{IsLeft, wholes_of}
use Rattle.model_report.specs.declared.entry.Marks.{Marks}
use Rattle.model_theorem.specs.Run.{IsRun, LosesOnlyByFailure, Opened, Ran}
use Rattle.model_parts.specs.{LogHolds}
use Rattle.model_parts.specs.declared.marks.LogMarks.{LogMarks}
use Rattle.model_theorem.specs.Given.{AreGiven}
use Rattle.model_theorem.specs.Kept.{DataHolds}

-- what a drive was given, with the number of the checkpoint that opening made; the run, as far as it came; and what both
-- devices mean then
pub record Held : Type 0 where
  pub script : List ScriptLine
  pub opened : Opened
  pub number : ℕ
  pub run : Ran
  pub log_disk : Disk
  pub data_disk : Disk

-- the same of a run all users of which have ended, with what is left of the script
pub record Closed : Type 0 where
  pub script : List ScriptLine
  pub opened : Opened
  pub number : ℕ
  pub run : Ran
  pub left : List (ℕ × ℕ)
  pub log_disk : Disk
  pub data_disk : Disk

abbrev pub held_of : Closed → Held
held_of closed = record {
  script = closed.script;
  opened = closed.opened;
  number = closed.number;
  run = closed.run;
  log_disk = closed.log_disk;
  data_disk = closed.data_disk;
}

-- the groups of the run
abbrev pub groups_of_run : Held → List Whole
groups_of_run held = wholes_of held.script held.opened.shape.space held.run.entries

-- The marks of the run are no further than those of its log part, and those are below the limit.
pub record AreMarksBehind (marks : Marks) (log_marks : LogMarks) : Type 0 where
  pub flushed : marks.flushed ≤ log_marks.stable
  pub ckpt : marks.ckpt ≤ log_marks.ckpt
  pub small : log_marks.given ≤ LSN_LIMIT

-- BOTH DEVICES HOLD THE RUN, which is a legal one: the log device holds its groups, with no older checkpoint than opening
-- made, and the data device keeps of each page a prefix of it.
pub record IsHeld (held : Held) : Type 0 where
  pub given : AreGiven held.script held.opened
  pub is_run : IsRun held.script held.opened held.run
  pub log_marks : LogMarks
  pub marks : AreMarksBehind held.run.marks log_marks
  pub number_kept : held.number ≤ log_marks.number
  pub log_holds : LogHolds held.opened.shape held.run.start (groups_of_run held) log_marks held.log_disk
  pub data_holds : DataHolds held.opened.shape held.opened.pages (groups_of_run held) log_marks.stable log_marks.asked held.data_disk

-- A CLOSED RUN: both devices hold it, and it loses something only where a call failed.
pub record IsClosed (failures : ℕ) (closed : Closed) : Type 0 where
  pub holds : IsHeld (held_of closed)
  pub left_is : IsLeft closed.script closed.run.entries closed.left
  pub loses : LosesOnlyByFailure failures (Some closed.run) closed.left
