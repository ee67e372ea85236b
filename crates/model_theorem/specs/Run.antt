-- The plain values of which the crash theorem speaks, whether a script fits the store that was opened, and the two halves of
-- what is promised: what a run is, and what a reading of its devices is of it.
-- Whether opening came to its end, as the log device tells it. Opening ends by making a checkpoint durable, whose number is
-- above that of the store that was found; a store of an earlier format then gets the header of format 3, which comes last. A
-- run begins only after that.
use Rattle.std.specs.Prelude.{ℕ, List, [], Option, Some, None, ◌-◌, Bool, if◌then◌else◌, ◌≡◌, ◌≢◌, ◌≤◌, ◌<◌, take, slice_get, IfSome, ◌+◌}
use Rattle.model_base.specs.declared.shape.Shape.{Shape}
use Rattle.model_page.specs.declared.content.Content.{Content}
use Rattle.model_report.specs.declared.entry.Entry.{Entry}
use Rattle.model_report.specs.declared.entry.Marks.{Marks}
use Rattle.model_log.specs.{start_after, IsBoundary, head_of, layout_of, newest_checkpoint, run_format}
use Rattle.model_log.specs.declared.layout.TheConstants.{BLOCK_HEADER}
use Rattle.model_script.specs.{first_misfit, round_end}
use Rattle.model_script.specs.declared.misfit.Misfit.{Misfit}
use Rattle.model_script.specs.declared.script.ScriptLine.{ScriptLine}
use Rattle.model_base.specs.{run_shape, default_shape}
use Rattle.model_store.specs.{folded, HasOldCopies, IsReading, IsFairLog, IsOrderly, Reading}
use Rattle.model_report.specs.{count_up_to, entry_spans, IsLegal, wholes_of}
use Rattle.model_report.specs.declared.entry.State.TheVariants.{Lost, Flushed}
use Rattle.model_device.specs.{HasOneImage, Disk}
use Rattle.model_log.specs.declared.head.Format.{Format}
use Rattle.model_log.specs.declared.head.Head.TheVariants.{Good}
use Rattle.model_parts.specs.{formatted_store, IsUnopened}

-- a store as it is opened: its sizes, its pages, and where its log ends
pub record Opened : Type 0 where
  pub shape : Shape
  pub pages : List Content
  pub end : ℕ

-- what a run comes to: where it started, the groups that it reserved in lsn order, and its marks at the end
pub record Ran : Type 0 where
  pub start : ℕ
  pub entries : List Entry
  pub marks : Marks

-- the groups that were reserved: none where opening was stopped
abbrev pub entries_of : Option Ran → List Entry
entries_of None = []
entries_of (Some run) = run.entries

-- where the log runs alone, no checkpoint frees it, and the run has room for one round from its checkpoint on
abbrev pub room_of : Bool → Opened → Option ℕ
room_of log_only opened = if log_only then Some (round_end opened.shape (start_after opened.end - BLOCK_HEADER)) else None

-- The first quantity of the script that doesn't fit the opened store, or that leaves no room for its archive on a device of
-- so many bytes, if it is archived.
abbrev pub misfit_on : Bool → (archive : Option ℕ) → Opened → List ScriptLine → Option Misfit
misfit_on log_only archive opened script =
    first_misfit opened.shape (start_after opened.end) (room_of log_only opened) archive script

-- THE RUN: a legal history of the script, from the start after the opened log, with marks between its groups.
pub record IsRun (script : List ScriptLine) (opened : Opened) (run : Ran) : Type 0 where
  pub start : run.start ≡ start_after opened.end
  pub legal : IsLegal script opened.shape.space run.start run.marks run.entries
  pub wtail : IsBoundary run.start (entry_spans run.entries) run.marks.wtail
  pub write : IsBoundary run.start (entry_spans run.entries) run.marks.write
  pub flushed : IsBoundary run.start (entry_spans run.entries) run.marks.flushed
  pub write_within : run.marks.write ≤ run.marks.wtail

-- how many of the run's groups end at or below the lsn
abbrev pub first_count : Option Ran → ℕ → ℕ
first_count run lsn = count_up_to lsn (entries_of run)

-- no flushed mark is above the end that was read, and no checkpoint mark above the checkpoint that was read
pub record AreMarksReached (reading : Reading) (run : Ran) : Type 0 where
  pub flushed : run.marks.flushed ≤ reading.end
  pub checkpoint : run.marks.ckpt ≤ reading.ckpt

-- THE READING: the opened pages with the first n groups of the run applied whole, n being the number of those that end
-- at or below the end that was read. Where opening was stopped, its shape may still be that of an earlier format.
pub record IsPrefixRead (script : List ScriptLine) (opened : Opened) (run : Option Ran) (reading : Reading) : Type 0 where
  pub shape : run_shape reading.shape ≡ opened.shape
  pub shape_of_run : IfSome run (λ _. reading.shape ≡ opened.shape)
  -- the pages are the fold of the first n groups, page lsns included
  pub first_groups_whole : reading.pages
      ≡ folded opened.pages (take (first_count run reading.end) (wholes_of script opened.shape.space (entries_of run)))
  -- each flushed group is among the first n
  pub reaching_flushed : (i : ℕ) (entry : Entry) → slice_get (entries_of run) i ≡ Some entry → entry.state ≡ Flushed
      → i < first_count run reading.end
  pub marks : IfSome run (AreMarksReached reading)

-- A group is lost only where a device call failed, of which so many did; so is a line left, and so was opening stopped.
pub record LosesOnlyByFailure (failures : ℕ) (run : Option Ran) (lines_left : List (ℕ × ℕ)) : Type 0 where
  pub lost : (i : ℕ) (entry : Entry) → slice_get (entries_of run) i ≡ Some entry → entry.state ≡ Lost → 0 < failures
  pub left : lines_left ≢ [] → 0 < failures
  pub stopped : run ≡ None → 0 < failures

-- the two devices are read, and as a prefix of the run; no copy in a slot is ahead of its page, so that they may be
-- opened again
pub record ReadsPrefix (script : List ScriptLine) (opened : Opened) (run : Option Ran) (log data_bytes : List ℕ) : Type 0 where
  pub reading : Reading
  pub is_read : IsReading log data_bytes reading
  pub old_copies : HasOldCopies data_bytes reading
  pub prefix : IsPrefixRead script opened run reading

-- the devices are at rest, and hold what formatting leaves, with the checkpoint of number 0, which the first opening
-- replaces
pub record AreFormatted (log_disk data_disk : Disk) : Type 0 where
  pub log_rests : HasOneImage log_disk log_disk.reads
  pub data_rests : HasOneImage data_disk data_disk.reads
  pub orderly : IsOrderly log_disk.reads data_disk.reads (formatted_store default_shape)

-- the bytes of a log device are of this format, and this is their newest checkpoint
pub record HasCheckpoint (format : Format) (shape : Shape) (number ckpt : ℕ) (log : List ℕ) : Type 0 where
  pub head : head_of log ≡ Good format shape
  pub newest : newest_checkpoint (layout_of format shape) log ≡ Some (number, ckpt)

-- they are of the format of runs, and the number of their newest checkpoint isn't below this
pub record HasCheckpointFrom (shape : Shape) (lowest : ℕ) (log : List ℕ) : Type 0 where
  pub number : ℕ
  pub ckpt : ℕ
  pub newest : HasCheckpoint (run_format shape) shape number ckpt log
  pub from : lowest ≤ number

-- What opening found: at its last good sync the log device held this checkpoint as the newest, of a store that had these sizes,
-- and is run by the others.
pub record HasFound (shape was : Shape) (number ckpt : ℕ) (disk : Disk) : Type 0 where
  pub runs_by : run_shape was ≡ shape
  pub format : Format
  pub newest : HasCheckpoint format was number ckpt disk.base

-- Opening was stopped where no run took place: at the log device's last good sync the header was still of an earlier format, or
-- the newest checkpoint was still the one that was found. Where one did, every fair image of the log device is of the format of
-- runs, and has a newer checkpoint than was found.
abbrev pub EndsOpening : (shape was : Shape) → (number ckpt : ℕ) → Disk → Option Ran → Type 0
EndsOpening shape was number ckpt disk None = IsUnopened was number ckpt disk.base
EndsOpening shape was number ckpt disk (Some run) = (image : List ℕ) → IsFairLog disk image → HasCheckpointFrom shape (number + 1) image

-- OPENING CAME TO ITS END just where a run took place. What stood there at the last good sync is a fair image, so no device
-- is left by both.
pub record IsOpenedBefore (shape : Shape) (armed_from disk : Disk) (run : Option Ran) : Type 0 where
  pub was : Shape
  pub number : ℕ
  pub ckpt : ℕ
  pub found : HasFound shape was number ckpt armed_from
  pub ends : EndsOpening shape was number ckpt disk run
