-- A stretch of a device that was read.
use Rattle.std.specs.Prelude.{ℕ, ◌≡◌, ◌≤◌, ◌+◌, List, length}
use Rattle.model_base.specs.declared.limits.TheConstants.{BLOCK_SIZE}
use Rattle.redo_disk.specs.{part}
use Rattle.redo_recover.specs.declared.piece.Piece.{Piece}

-- its bytes are those of the device from its offset on
abbrev pub IsPieceOf : Piece → List ℕ → Type 0
IsPieceOf piece content = piece.bytes.items ≡ part content piece.from (length piece.bytes.items)

-- the sector at this offset of the device is one of its own
pub record HasSector (piece : Piece) (at : ℕ) : Type 0 where
  pub from : piece.from ≤ at
  pub whole : at + BLOCK_SIZE ≤ piece.from + length piece.bytes.items
