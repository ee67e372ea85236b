-- The archive beside the actors of a run, from turn to turn, and what it is left with by the run.
use Rattle.std.specs.Prelude.{Bool, List, [], None, Option, Some, false, slice_index, true, ℕ, ◌++◌, ◌≡◌, ◌≤◌, IfSome, ◌+◌}
use lib.ListN.{get_elem?}
use mathlib.Core.Option.{some}
use Rattle.model_base.specs.{HasRisen}
use Rattle.model_core.specs.{after_of, archives, flushed_at, lsn, next, reader_program, ReaderState, archive_device_code, Setup}
use Rattle.model_core.specs.ReaderProgram.{Filling, reader_filled}
use Rattle.model_core.specs.declared.ops.Answer.{Answer}
use Rattle.model_core.specs.declared.ops.Op.TheVariants as op
use Rattle.model_core.specs.States as model
use Rattle.model_ends.specs.Bound.{last_lsn}
use Rattle.model_log.specs.{IsRunOf, block_of}
use Rattle.model_log.specs.declared.group.Whole.{Whole}
use Rattle.model_page.specs.declared.content.Content.{Content}
use Rattle.model_running.specs.Histories.{AreWholesOf}
use Rattle.redo_archive.specs.Part.{Part, PartArchives}
use Rattle.redo_archiver.specs.{IsAppended, IsFullBlock, KeepsPace, IsToFinish}
use Rattle.redo_disk.specs.{Call, Seen, StillTells}
use Rattle.redo_disk.specs.declared.error.DevError.TheVariants.{Failed}
use Rattle.redo_drive.specs.Calls.{CallsOn}
use Rattle.redo_drive.specs.Running.{RunOf, run_log_side, RunsWith}
use Rattle.redo_drive.specs.declared.parts.Parts.{Parts}
use Rattle.model_log.specs.declared.layout.TheConstants.{BLOCK_HEADER}
use Rattle.model_report.specs.{wholes_of}
use Rattle.model_script.specs.declared.script.ScriptLine.{ScriptLine}
use Rattle.redo_drive.specs.Drive.{WhereStarted}
use Rattle.redo_drive.specs.declared.closed.Closed.{Closed}
use Rattle.redo_logdev.specs.{PartHolds}
use Rattle.redo_logdev.specs.Part as log
use Rattle.redo_store.specs.declared.opened.Opened.{Opened}

-- none of the actors archives
abbrev pub HasNoArchiver : List model.Actor → Type 0
HasNoArchiver actors =
    (seat : ℕ) (r : ReaderState) → get_elem? actors seat ≡ some (model.Reader r) → archives r ≡ false

-- the mark that an archive was asked for last is at most this, and no earlier than the newest
pub record AsksUpTo {A : Type 0} (flushed : ℕ) (part : Part A) : Type 0 where
  pub later : part.marks.mark ≤ part.marks.asked
  pub most : part.marks.asked ≤ flushed

-- AN ARCHIVE BESIDE THE ACTORS OF A RUN. One of them archives, and the archive is as far as that one; it has room for all
-- that the lines of the actors come to.
pub record StandsBeside {A : Type 0} (seen : A → Seen) (c : Setup) (words : List ℕ) (actors : List model.Actor)
    (part : Part A) : Type 0 where
  pub seat : ℕ
  pub archiver : ReaderState
  pub at : get_elem? actors seat ≡ some (model.Reader archiver)
  pub only : (other : ℕ) (r : ReaderState) → get_elem? actors other ≡ some (model.Reader r) → archives r ≡ true
      → other ≡ seat
  pub start : part.start ≡ lsn c.base
  pub limit : ℕ
  pub all : last_lsn c actors ≤ limit
  pub pace : KeepsPace seen limit (slice_index words flushed_at) archiver part
  pub asked : AsksUpTo (slice_index words flushed_at) part

-- the same where there is an archive; else no actor archives
abbrev pub IsBeside : {A : Type 0} → (A → Seen) → Setup → List ℕ → List model.Actor → Option (Part A) → Type 0
IsBeside seen c words actors None = HasNoArchiver actors
IsBeside seen c words actors (Some part) = StandsBeside seen c words actors part

-- AN APPEND of the block that the archiver has read, with this answer. The archive is again as far as the archiver; and it
-- archives what it did of a run, if the block was the run's for its groups at an earlier time.
pub record Appends {A : Type 0} (seen : A → Seen) (gives : A → Call → A → Type 0) (archiver : ReaderState) (before : Part A)
    (answer : Answer) (after : Part A) : Type 0 where
  pub mark : ℕ
  pub asks : next (model.Reader archiver) ≡ op.Append mark
  pub appended : IsAppended seen before mark answer after
  pub calls : CallsOn gives before.dev before.failed after.dev after.failed
  pub pace : (limit flushed : ℕ) (filling : Filling) → KeepsPace seen limit flushed archiver before
      → KeepsPace seen limit flushed (after_of reader_program (reader_filled archiver filling archiver.step) answer) after
  pub archives : (limit flushed : ℕ) (pages : List Content) (early late : List Whole) → KeepsPace seen limit flushed archiver before
      → IsRunOf before.start (early ++ late) → IsFullBlock before.start early archiver.place archiver.block
      → PartArchives seen pages (early ++ late) before → PartArchives seen pages (early ++ late) after

-- the same archive on the same device, later: the device has failed if a call of it has, and what the part tells is what
-- its calls answered
pub record IsSameArchive {A : Type 0} (seen : A → Seen) (gives : A → Call → A → Type 0) (before after : Part A) : Type 0 where
  pub shape : after.shape ≡ before.shape
  pub start : after.start ≡ before.start
  pub size : (seen after.dev).size ≡ (seen before.dev).size
  pub later : (seen before.dev).faults ≤ (seen after.dev).faults
  pub risen : after.failed ≡ Some Failed → HasRisen (seen before.dev).faults (seen after.dev).faults
  pub calls : CallsOn gives before.dev before.failed after.dev after.failed

module _ {L D A : Type 0} {archive : Bool} (log_seen : L → Seen) (data_seen : D → Seen) (arch_seen : A → Seen)
    (arch_gives : A → Call → A → Type 0) (run : RunOf L D) (parts : Parts L D) (actors : List model.Actor)
    (runs : RunsWith log_seen data_seen run archive parts actors) where
  -- The run that began with the first of these archives has come to the other. It stands beside the actors; and where the log
  -- device tells, it archives the groups of the log, if it was begun as an archive.
  pub record HasCome (before after : Part A) : Type 0 where
    pub beside : StandsBeside arch_seen run.setup parts.words.words actors after
    pub same : IsSameArchive arch_seen arch_gives before after
    pub archives : (run_log_side log_seen data_seen run).Tells parts.log
        → (pages : List Content) → PartArchives arch_seen pages [] before
        → (wholes : List Whole) → AreWholesOf runs.running.log_ghost.log wholes
        → PartArchives arch_seen pages wholes after

  -- the same where there was an archive; else no actor archives
  abbrev pub HasComeTo : Option (Part A) → Option (Part A) → Type 0
  HasComeTo None None = HasNoArchiver actors
  HasComeTo (Some before) (Some after) = HasCome before after
  HasComeTo _ _ = ⊥

-- A log part holds a run, and stable is what stands from one lsn up to another.
pub record HoldsFrom {L : Type 0} (seen : L → Seen) (s : ℕ) (wholes : List Whole) (from to : ℕ) (part : log.Part L) : Type 0 where
  pub run : IsRunOf s wholes
  pub holds : PartHolds seen s wholes part
  pub ckpt : part.marks.ckpt ≤ from
  pub stable : to ≤ part.marks.stable

-- AN ARCHIVE, as a run leaves it where its log device tells: it archives the groups of the history over the pages with which
-- the run was opened, up to its mark; and no checkpoint that was made or asked for is above the block of the mark. The log
-- part holds what it lacks up to FLUSHED.
pub record ArchivesRun {L D A : Type 0} (log_seen : L → Seen) (arch_seen : A → Seen) (opened : Opened L D)
    (script : List ScriptLine) (closed : Closed L D) (part : Part A) : Type 0 where
  pub archives : PartArchives arch_seen opened.pages (wholes_of script opened.shape.space closed.history) part
  pub made : closed.marks.ckpt ≤ block_of part.marks.mark
  pub asked : closed.log.marks.asked ≤ block_of part.marks.mark
  pub rest : HoldsFrom log_seen opened.start (wholes_of script opened.shape.space closed.history)
      (block_of part.marks.mark) closed.marks.flushed closed.log

-- WHAT A DRIVE LEAVES OF AN ARCHIVE that was begun for its run. It is the same archive, later; it has failed as the closed run
-- tells, and FAILED is 4 only by a failure of its device. It is as far as the archiver among the actors. Its mark, and the one
-- that it was asked for last, are at most FLUSHED, up to where it may be finished. And where both devices told before the run,
-- of a store that was ready, and the log device tells after it, it archives the run, if it was begun with the opened pages.
pub record HasArchived {L D A : Type 0} (log_seen : L → Seen) (data_seen : D → Seen) (arch_seen : A → Seen)
    (arch_gives : A → Call → A → Type 0) (opened : Opened L D) (script : List ScriptLine) (closed : Closed L D)
    (actors : List model.Actor) (before after : Part A) : Type 0 where
  pub same : IsSameArchive arch_seen arch_gives before after
  pub failed : after.failed ≡ closed.lost
  pub code : closed.code ≡ archive_device_code → after.failed ≡ Some Failed
  pub reached : (seat : ℕ) (r : ReaderState) → get_elem? actors seat ≡ some (model.Reader r) → archives r ≡ true
      → after.marks.mark ≡ r.place + BLOCK_HEADER
  pub flushed : after.marks.mark ≤ closed.marks.flushed
  pub asked : AsksUpTo closed.marks.flushed after
  pub to_finish : IsToFinish arch_seen closed.marks.flushed after
  pub run : PartArchives arch_seen opened.pages [] before
      → WhereStarted log_seen data_seen opened script (λ was. IfSome (log_seen closed.log.dev).tells (λ log_now.
      ArchivesRun log_seen arch_seen opened script closed after))

-- the same where there is an archive; and where there is none, there is none then, and nothing failed of it
abbrev pub HaveArchived : {L D A : Type 0} → (L → Seen) → (D → Seen) → (A → Seen) → (A → Call → A → Type 0)
    → Opened L D → List ScriptLine → Closed L D → List model.Actor → Option (Part A) → Option (Part A) → Type 0
HaveArchived log_seen data_seen arch_seen arch_gives opened script closed actors None None = closed.lost ≡ None
HaveArchived log_seen data_seen arch_seen arch_gives opened script closed actors (Some before) (Some after) =
    HasArchived log_seen data_seen arch_seen arch_gives opened script closed actors before after
HaveArchived log_seen data_seen arch_seen arch_gives opened script closed actors _ _ = ⊥

-- A log part from which blocks were read: nothing else was asked of its device, which tells what it told or nothing any more.
pub record IsReadBack {L : Type 0} (seen : L → Seen) (gives : L → Call → L → Type 0) (old new : log.Part L) : Type 0 where
  pub shape : new.shape ≡ old.shape
  pub marks : new.marks ≡ old.marks
  pub told : StillTells (seen old.dev).tells (seen new.dev).tells
  pub later : (seen old.dev).faults ≤ (seen new.dev).faults
  pub calls : CallsOn gives old.dev old.failed new.dev new.failed
  pub holds : (s : ℕ) (wholes : List Whole) → PartHolds seen s wholes old → PartHolds seen s wholes new

-- WHAT IS APPENDED AFTER A RUN is of the run: what the archive archives of it, it archives then, where the log device tells.
abbrev pub FinishesArchive : {L A : Type 0} → (L → Seen) → (A → Seen) → ℕ → (old_log new_log : log.Part L) → (old new : Part A) → Type 0
FinishesArchive log_seen arch_seen flushed old_log new_log old new =
    (pages : List Content) (wholes : List Whole)
    → HoldsFrom log_seen old.start wholes (block_of old.marks.mark) flushed old_log
    → PartArchives arch_seen pages wholes old
    → IfSome (log_seen new_log.dev).tells (λ disk. PartArchives arch_seen pages wholes new)
