-- A store of format 1 is taken to format 2 once it is opened: each page stands in its place, so that all that counts of
-- the log is that it is read as empty from the same lsn on.
use Rattle.std.specs.Prelude.{ℕ, ◌≤◌, ◌<◌, ◌+◌, ◌⊎◌, List}
use Rattle.model_base.specs.declared.shape.Shape.{Shape}
use Rattle.model_log.specs.{checkpoint_text, head_text, place_of, run_layout, run_format}
use Rattle.model_log.specs.declared.layout.TheConstants.{HEADER_BLOCKS}
use Rattle.model_parts.specs.Changes.{IsErased, IsErasing, IsPut, IsPutting}

-- a block after the header blocks
pub record IsLogSector (shape : Shape) (k : ℕ) : Type 0 where
  pub from : HEADER_BLOCKS ≤ k
  pub below : k < HEADER_BLOCKS + shape.log_blocks

-- all blocks are erased, and then the checkpoint of this number is put, and the header in block 2
pub record IsNearlyMigrated (shape : Shape) (number lsn : ℕ) (old new : List ℕ) : Type 0 where
  pub erased : List ℕ
  pub is_erased : IsErased (IsLogSector shape) old erased
  pub marked : List ℕ
  pub is_marked : IsPut (place_of number) (checkpoint_text number lsn (run_layout shape)) erased marked
  pub headed : IsPut 2 (head_text (run_format shape) shape) marked new

-- An image at any moment of it, of a device that was opened by format 1: while blocks are erased, while the checkpoint is
-- written, while the header is put into block 2, and while it is put into block 0.
abbrev pub IsMigrating : Shape → ℕ → ℕ → List ℕ → List ℕ → Type 0
IsMigrating shape number lsn old new =
    IsErasing (IsLogSector shape) old new
    ⊎ ((erased : List ℕ) × IsErased (IsLogSector shape) old erased
    × IsPutting (place_of number) (checkpoint_text number lsn (run_layout shape)) erased new)
    ⊎ ((erased marked : List ℕ) × IsErased (IsLogSector shape) old erased
    × IsPut (place_of number) (checkpoint_text number lsn (run_layout shape)) erased marked
    × IsPutting 2 (head_text (run_format shape) shape) marked new)
    ⊎ ((headed : List ℕ) × IsNearlyMigrated shape number lsn old headed
    × IsPutting 0 (head_text (run_format shape) shape) headed new)

-- and once it is done
pub record IsMigrated (shape : Shape) (number lsn : ℕ) (old new : List ℕ) : Type 0 where
  pub headed : List ℕ
  pub nearly : IsNearlyMigrated shape number lsn old headed
  pub first : IsPut 0 (head_text (run_format shape) shape) headed new
