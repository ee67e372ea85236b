-- What an archive device holds of a run, whatever a crash leaves of it.
use Rattle.std.specs.Prelude.{ℕ, ◌≡◌, ◌≤◌, ◌<◌, ◌+◌, ◌*◌, ◌⊎◌, min, List, length, Option, Some, None}
use Rattle.model_base.specs.{IsWithinLimits}
use Rattle.model_base.specs.declared.shape.Shape.{Shape}
use Rattle.model_base.specs.declared.limits.TheConstants.{BLOCK_SIZE, LSN_LIMIT}
use Rattle.model_device.specs.{AreSectorWrites, IsCovered, sector, Disk}
use Rattle.model_log.specs.declared.group.Whole.{Whole}
use Rattle.model_log.specs.{block_of, blocks_between, IsBoundary, IsBoundaryBlock, IsDataLsn, IsRunOf, last_span_end, lsn_at, spans_of}
use Rattle.model_page.specs.declared.content.Content.{Content}
use Rattle.model_parts.specs.{MayStand, HasNothingPending}
use Rattle.model_parts.specs.Marks.{NEXT_DATA}
use Rattle.model_archive.specs.Restore.{archive_block, archive_length, mark_place, read_archive_head, read_mark, AreBasePages}
use Rattle.model_archive.specs.Texts.{IsRunStart, other_mark_place}
use Rattle.model_archive.specs.declared.marks.ArchMarks.{ArchMarks}

-- The block at b as an archive holds it: that of the run for a boundary of it, which is no earlier than the mark or
-- than the block's end.
pub record IsArchivedBlock (s : ℕ) (wholes : List Whole) (mark b : ℕ) (bytes : List ℕ) : Type 0 where
  pub m : ℕ
  pub boundary : IsBoundary s (spans_of wholes) m
  pub enough : min mark (b + NEXT_DATA) ≤ m
  pub block : IsBoundaryBlock s wholes m b bytes

-- An archive of a run of a store, from which the run can be restored up to the mark: its head, its pages and its blocks
-- with a byte below the mark stand there, and no write since the last sync covers them.
pub record HoldsUpTo (shape : Shape) (s : ℕ) (pages : List Content) (wholes : List Whole) (mark : ℕ)
    (disk : Disk) : Type 0 where
  pub place : IsDataLsn mark
  pub from : s ≤ mark
  pub up_to : mark ≤ last_span_end s (spans_of wholes)
  pub small : mark < LSN_LIMIT
  pub long : archive_length shape s mark ≤ length disk.base
  pub settled : (k : ℕ) → (k ≡ 1 → ⊥) → (k ≡ 2 → ⊥) → BLOCK_SIZE * k < archive_length shape s mark
      → IsCovered disk.writes k → ⊥
  pub head : read_archive_head (sector 0 disk.base) ≡ Some (s, shape)
  pub pages_are : AreBasePages shape disk.base pages
  pub blocks : (i : ℕ) → i < blocks_between s mark → IsArchivedBlock s wholes mark (lsn_at (block_of s) i)
      (archive_block shape s (lsn_at (block_of s) i) disk.base)

-- What the mark block beside the newest good mark may read as: nothing, an older mark, or the one asked for last, up to
-- which everything is there.
abbrev pub IsBesideMark : Shape → ℕ → List Content → List Whole → ArchMarks → Disk → Option (ℕ × ℕ) → Type 0
IsBesideMark shape s pages wholes marks disk None = Unit {0}
IsBesideMark shape s pages wholes marks disk (Some other) =
    (other.0 < marks.number)
    ⊎ ((other.0 ≡ marks.number + 1) × (other.1 ≡ marks.asked) × HoldsUpTo shape s pages wholes marks.asked disk)

-- THE ARCHIVE OF A RUN. It holds the run up to the newest mark, whatever may stand in the sectors of the marks.
pub record ArchiveHolds (shape : Shape) (s : ℕ) (pages : List Content) (wholes : List Whole) (marks : ArchMarks)
    (disk : Disk) : Type 0 where
  pub limits : IsWithinLimits shape
  pub start : IsRunStart s
  pub run : IsRunOf s wholes
  pub sectors : AreSectorWrites (length disk.base) disk.writes
  pub holds : HoldsUpTo shape s pages wholes marks.mark disk
  pub newest : (bytes : List ℕ) → MayStand disk (mark_place marks.number) bytes
      → read_mark (mark_place marks.number) s bytes ≡ Some (marks.number, marks.mark)
  pub beside : (bytes : List ℕ) → MayStand disk (other_mark_place marks.number) bytes
      → IsBesideMark shape s pages wholes marks disk (read_mark (other_mark_place marks.number) s bytes)

-- blocks that are side by side are those of the run from a block on, as an archive holds them
abbrev pub AreArchivedBlocks : ℕ → List Whole → ℕ → ℕ → List ℕ → Type 0
AreArchivedBlocks s wholes from mark bytes =
    (i : ℕ) → i < blocks_between from mark → IsArchivedBlock s wholes mark (lsn_at (block_of from) i) (sector i bytes)

-- nothing, or an older mark
abbrev pub IsOlderMark : ArchMarks → Option (ℕ × ℕ) → Type 0
IsOlderMark marks None = Unit {0}
IsOlderMark marks (Some other) = other.0 < marks.number

-- an archive device on which every call so far answered Ok: nothing is pending
pub record IsSteadyArchive (s : ℕ) (marks : ArchMarks) (disk : Disk) : Type 0 where
  pub nothing_pending : HasNothingPending disk
  pub beside : IsOlderMark marks (read_mark (other_mark_place marks.number) s
      (sector (other_mark_place marks.number) disk.base))
