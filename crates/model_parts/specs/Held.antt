-- What a log device holds of a run of groups, in whatever a crash may leave of it that is fair.
-- A log device on which a run can start.
use Rattle.std.specs.Prelude.{ℕ, ◌≡◌, ◌≤◌, ◌<◌, ◌+◌, ◌-◌, ◌%◌, ◌⊎◌, false, List, length, Option, Some, None}
use Rattle.model_base.specs.{field}
use Rattle.model_base.specs.declared.shape.Shape.{Shape}
use Rattle.model_base.specs.declared.limits.TheConstants.{BLOCK_SIZE, START_LSN}
use Rattle.model_device.specs.{AreSectorWrites, IsCovered, sector, settled, Disk}
use Rattle.model_device.specs.MayHold.{MayHold}
use Rattle.model_log.specs.declared.group.Whole.{Whole}
use Rattle.model_log.specs.{block_of, fits_checksum, IsAtDataStart, IsBoundary, IsBoundaryBlock, IsInRound, IsRunOf, IsTailPlace, log_device_length, place_of, read_checkpoint, read_head, round_of, run_format, run_layout, sector_of, spans_of, turn_of, newest_checkpoint}
use Rattle.model_log.specs.declared.head.Head.TheVariants.{Good}
use Rattle.model_log.specs.declared.layout.Layout.{Layout}
use Rattle.model_log.specs.declared.layout.TheConstants.{BLOCK_HEADER}
use Rattle.model_parts.specs.declared.marks.LogMarks.{LogMarks}
use Rattle.model_parts.specs.declared.marks.TailMarks.{TailMarks}
use Rattle.model_store.specs.{read_full, read_tail}
use Rattle.model_parts.specs.Marks.{NEXT_DATA}

-- What may stand in a sector of a fair image: a whole content, or, where a write covers it, bytes whose checksum doesn't
-- fit.
abbrev pub MayStand : Disk → ℕ → List ℕ → Type 0
MayStand disk k bytes = MayHold disk k bytes ⊎ (IsCovered disk.writes k × (fits_checksum bytes ≡ false))

-- the full block at b, where the mark is at or past the first data byte of the next one
pub record IsFullBlock (s : ℕ) (wholes : List Whole) (mark b : ℕ) (bytes : List ℕ) : Type 0 where
  pub full : b + NEXT_DATA ≤ mark
  pub block : IsBoundaryBlock s wholes mark b bytes

-- no full block of the lsn is read there, and none is missed
pub record IsNotFull (low b : ℕ) (bytes : List ℕ) : Type 0 where
  pub none_below : low < b + NEXT_DATA
  pub unread : read_full b bytes ≡ None

-- what may stand in the place of the block at b: a full block of the run, or none, where none is below the lower mark
abbrev pub IsBlockPlace : ℕ → List Whole → ℕ → ℕ → ℕ → List ℕ → Type 0
IsBlockPlace s wholes low high b bytes = IsFullBlock s wholes high b bytes ⊎ IsNotFull low b bytes

-- the incomplete block at b for a boundary up to the mark
pub record IsPartBlock (s : ℕ) (wholes : List Whole) (high b : ℕ) (bytes : List ℕ) : Type 0 where
  pub mark : ℕ
  pub boundary : IsBoundary s (spans_of wholes) mark
  pub up_to : mark ≤ high
  pub some : b + BLOCK_HEADER < mark
  pub part : mark < b + NEXT_DATA
  pub block : IsBoundaryBlock s wholes mark b bytes

-- whatever block from the lsn on is read in a tail block is the run's, for a boundary up to the mark
abbrev pub IsTail : ℕ → List Whole → ℕ → ℕ → List ℕ → Type 0
IsTail s wholes high from bytes =
    (b : ℕ) → b % BLOCK_SIZE ≡ 0 → from ≤ b → (read_tail b bytes ≡ None) ⊎ IsPartBlock s wholes high b bytes

-- the incomplete block of the mark, as it stands in a tail block
pub record IsTailBlock (s : ℕ) (wholes : List Whole) (mark : ℕ) (bytes : List ℕ) : Type 0 where
  pub block : IsBoundaryBlock s wholes mark (block_of mark) bytes
  pub turn : field 4 8 bytes ≡ turn_of (block_of mark)

-- the tail block holds it, where the mark has one
abbrev pub HoldsTail : ℕ → List Whole → ℕ → List ℕ → Type 0
HoldsTail s wholes mark bytes = (mark ≤ block_of mark + BLOCK_HEADER) ⊎ IsTailBlock s wholes mark bytes

-- A run starts at s with these groups, the marks are boundaries of it and in order, and the last one is at most a round
-- of the log past the checkpoint.
pub record AreInOrder (layout : Layout) (s : ℕ) (wholes : List Whole) (marks : LogMarks) : Type 0 where
  pub starts : IsAtDataStart s
  pub run : IsRunOf s wholes
  pub stable : IsBoundary s (spans_of wholes) marks.stable
  pub written : IsBoundary s (spans_of wholes) marks.written
  pub given : IsBoundary s (spans_of wholes) marks.given
  pub stable_written : marks.stable ≤ marks.written
  pub written_given : marks.written ≤ marks.given
  pub ckpt_aligned : marks.ckpt % BLOCK_SIZE ≡ 0
  pub ckpt_started : START_LSN ≤ marks.ckpt
  pub ckpt_from : block_of s ≤ marks.ckpt
  pub ckpt_asked : marks.ckpt ≤ marks.asked
  pub asked_stable : marks.asked ≤ marks.stable
  pub room : marks.given ≤ marks.ckpt + round_of layout

-- The kept mark is a boundary between the stable and the written mark. A sync moves it, a checkpoint's too.
pub record IsKeptMark (s : ℕ) (wholes : List Whole) (marks : LogMarks) (tails : TailMarks) : Type 0 where
  pub boundary : IsBoundary s (spans_of wholes) tails.kept
  pub from : marks.stable ≤ tails.kept
  pub up_to : tails.kept ≤ marks.written
  pub place : IsTailPlace tails.tail

-- the file header stands in a block of this number
abbrev pub IsHeadPlace : ℕ → Type 0
IsHeadPlace k = (k ≡ 0) ⊎ (k ≡ 2)

-- the other of the two header blocks for checkpoints
abbrev pub other_place : ℕ → ℕ
other_place number = 4 - place_of number

-- the checkpoint of the next number, which a call that failed has left
pub record IsAskedFor (marks : LogMarks) (number lsn : ℕ) : Type 0 where
  pub next : number ≡ marks.number + 1
  pub from : marks.ckpt ≤ lsn
  pub up_to : lsn ≤ marks.asked
  pub aligned : lsn % BLOCK_SIZE ≡ 0

-- What the header block beside the newest good checkpoint may read as: nothing, an older checkpoint, or the one asked
-- for last.
abbrev pub IsBeside : LogMarks → Option (ℕ × ℕ) → Type 0
IsBeside marks None = Unit {0}
IsBeside marks (Some other) = (other.0 < marks.number) ⊎ IsAskedFor marks other.0 other.1

-- The log device of a run. What holds is said of each sector, for whatever may stand there in a fair image: the file
-- header in both its blocks, the newest checkpoint at or past the last good one and at most at the last one asked for,
-- and from there on the full blocks of the run in their places and its incomplete block in a tail block, for a boundary
-- from the kept mark up to the last one given.
pub record LogHoldsWith (shape : Shape) (s : ℕ) (wholes : List Whole) (marks : LogMarks) (tails : TailMarks) (disk : Disk) : Type 0 where
  pub long : log_device_length shape ≤ length disk.base
  pub sectors : AreSectorWrites (length disk.base) disk.writes
  pub heads : (k : ℕ) → IsHeadPlace k → (bytes : List ℕ) → MayStand disk k bytes
      → read_head bytes ≡ Good (run_format shape) shape
  pub order : AreInOrder (run_layout shape) s wholes marks
  pub kept : IsKeptMark s wholes marks tails
  pub blocks : (b : ℕ) → IsInRound (run_layout shape) marks.ckpt b → (bytes : List ℕ) → MayStand disk (sector_of (run_layout shape) b) bytes
      → IsBlockPlace s wholes tails.kept marks.given b bytes
  pub tail_blocks : (k : ℕ) → IsTailPlace k → (bytes : List ℕ) → MayStand disk k bytes → IsTail s wholes marks.given marks.ckpt bytes
  pub kept_tail : (bytes : List ℕ) → MayStand disk tails.tail bytes → HoldsTail s wholes tails.kept bytes
  pub checkpoint : (bytes : List ℕ) → MayStand disk (place_of marks.number) bytes
      → read_checkpoint (place_of marks.number) (run_layout shape) bytes ≡ Some (marks.number, marks.ckpt)
  pub beside : (bytes : List ℕ) → MayStand disk (other_place marks.number) bytes
      → IsBeside marks (read_checkpoint (other_place marks.number) (run_layout shape) bytes)

-- the same for some tail marks: what layers above are told
pub record LogHolds (shape : Shape) (s : ℕ) (wholes : List Whole) (marks : LogMarks) (disk : Disk) : Type 0 where
  pub tails : TailMarks
  pub holds : LogHoldsWith shape s wholes marks tails disk

-- What reads give while no call has failed is more: the run below the written mark. So a sync makes it the stable one.
pub record IsWritten (shape : Shape) (s : ℕ) (wholes : List Whole) (marks : LogMarks) (tails : TailMarks) (disk : Disk) : Type 0 where
  pub long : log_device_length shape ≤ length disk.reads
  pub heads : (k : ℕ) → IsHeadPlace k → read_head (sector k disk.reads) ≡ Good (run_format shape) shape
  pub all_given : marks.given ≡ marks.written
  pub place : IsTailPlace tails.newest
  pub blocks : (b : ℕ) → IsInRound (run_layout shape) marks.ckpt b
      → IsBlockPlace s wholes marks.written marks.written b (sector (sector_of (run_layout shape) b) disk.reads)
  pub tail_blocks : (k : ℕ) → IsTailPlace k → IsTail s wholes marks.written marks.ckpt (sector k disk.reads)
  pub newest_tail : HoldsTail s wholes marks.written (sector tails.newest disk.reads)
  pub checkpoint : read_checkpoint (place_of marks.number) (run_layout shape) (sector (place_of marks.number) disk.reads)
      ≡ Some (marks.number, marks.ckpt)
  pub beside : IsBeside marks (read_checkpoint (other_place marks.number) (run_layout shape) (sector (other_place marks.number) disk.reads))

-- a log device on which every call so far answered Ok
pub record IsLive (shape : Shape) (s : ℕ) (wholes : List Whole) (marks : LogMarks) (tails : TailMarks) (disk : Disk) : Type 0 where
  pub holds : LogHoldsWith shape s wholes marks tails disk
  pub is_written : IsWritten shape s wholes marks tails disk

-- Nothing is pending on a log device. The newest checkpoint is of that number and stands at the block of the start.
-- No full block stands in its place from there up to one round on, and the tail blocks fit nowhere from there on, however
-- far.
pub record IsFresh (shape : Shape) (start number : ℕ) (disk : Disk) : Type 0 where
  pub long : log_device_length shape ≤ length disk.reads
  pub heads : (k : ℕ) → IsHeadPlace k → read_head (sector k disk.reads) ≡ Good (run_format shape) shape
  pub nothing_pending : disk ≡ settled disk.reads
  pub newest : newest_checkpoint (run_layout shape) disk.reads ≡ Some (number, start - BLOCK_HEADER)
  pub unread : (b : ℕ) → IsInRound (run_layout shape) (start - BLOCK_HEADER) b
      → read_full b (sector (sector_of (run_layout shape) b) disk.reads) ≡ None
  pub no_tail : (k : ℕ) → IsTailPlace k → (b : ℕ) → b % BLOCK_SIZE ≡ 0 → start - BLOCK_HEADER ≤ b
      → read_tail b (sector k disk.reads) ≡ None
