-- What is read off a log that holds a run.
use Rattle.std.specs.Prelude.{ℕ, ◌≡◌, ◌≤◌, ◌<◌, ◌^◌, List, ◌++◌, Some}
use Rattle.std.specs.List.{AllByRecursion}
use Rattle.model_base.specs.declared.shape.Shape.{Shape}
use Rattle.model_base.specs.declared.limits.TheConstants.{LSN_LIMIT}
use Rattle.model_log.specs.{groups_of, IsBoundary, last_span_end, newest_checkpoint, run_format, run_layout, spans_of}
use Rattle.model_log.specs.declared.group.Whole.{Whole}
use Rattle.model_log.specs.declared.block.BlockView.{BlockView}
use Rattle.model_store.specs.{HasHead, IsBadRecord, IsScan, IsStorable, Source, taken}
use Rattle.model_parts.specs.declared.marks.LogMarks.{LogMarks}

-- The scan of a source from the checkpoint on reads the groups up to a boundary between the marks: those in the middle.
-- Those before them start before the checkpoint.
pub record ScansTo (shape : Shape) (most s : ℕ) (wholes : List Whole) (low high ckpt : ℕ) (source : Source) : Type 0 where
  pub views : List BlockView
  pub before : List Whole
  pub middle : List Whole
  pub after : List Whole
  pub mark : ℕ
  pub parts : wholes ≡ before ++ (middle ++ after)
  pub scan : IsScan shape most source ckpt views middle mark
  pub boundary : IsBoundary s (spans_of wholes) mark
  pub ends : last_span_end s (spans_of (before ++ middle)) ≡ mark
  pub from : low ≤ mark
  pub up_to : mark ≤ high
  pub starts : AllByRecursion (λ (whole : Whole). whole.start < ckpt) before
  pub from_ckpt : AllByRecursion (λ (whole : Whole). ckpt ≤ whole.start) middle
  -- so these are the groups that end at or below the mark, and the others end above it
  pub read_end : AllByRecursion (λ (whole : Whole). whole.end ≤ mark) (before ++ middle)
  pub other_ends : AllByRecursion (λ (whole : Whole). mark < whole.end) after

-- What is read off a fair image of a log device that holds the run: a newest checkpoint, and from there on the groups up
-- to a boundary from the stable mark up to the last one given. The scan isn't refused.
pub record CrashReads (shape : Shape) (s : ℕ) (wholes : List Whole) (marks : LogMarks) (image : List ℕ) : Type 0 where
  pub number : ℕ
  pub ckpt : ℕ
  pub head : HasHead image (run_format shape) shape
  pub newest : newest_checkpoint (run_layout shape) image ≡ Some (number, ckpt)
  pub from : marks.ckpt ≤ ckpt
  pub up_to : ckpt ≤ marks.asked
  pub scan : ScansTo shape (run_layout shape).blocks s wholes marks.stable marks.given ckpt (taken (run_layout shape) image)
  pub not_refused : (lsn : ℕ) → IsBadRecord shape (run_layout shape).blocks (taken (run_layout shape) image) ckpt lsn → ⊥

-- the groups fit the store, and their lsns are below the limit
pub record FitsStore (shape : Shape) (wholes : List Whole) (marks : LogMarks) : Type 0 where
  pub good : AllByRecursion (IsStorable shape) (groups_of wholes)
  pub small : marks.given ≤ LSN_LIMIT
  pub some_blocks : 1 ≤ (run_layout shape).blocks
  pub few_blocks : (run_layout shape).blocks < 2 ^ 30
