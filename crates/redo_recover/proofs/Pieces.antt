-- A sector of a piece of a device is one of the device.
use Rattle.std.proofs.Common.{◌≡◌, ◌-◌, ℕ, List, length, ap, ◌∙◌, arith}
use Rattle.model_log.specs.{sector_at}
use Rattle.redo_recover.specs.Piece.{HasSector, IsPieceOf}
use Rattle.redo_recover.specs.declared.piece.Piece.{Piece}
use Rattle.redo_recover.proofs.Starting.{sector-part}

pub piece-sector : (image : List ℕ) (piece : Piece) (at : ℕ) (sector : List ℕ) → IsPieceOf piece image
    → HasSector piece at → sector ≡ sector_at (at - piece.from) piece.bytes.items → sector ≡ sector_at at image
piece-sector image piece at sector of has is =
    is ∙ ap (sector_at (at - piece.from)) of
    ∙ sector-part image piece.from (length piece.bytes.items) (at - piece.from) (omega (arith, has.from, has.whole))
    ∙ ap (λ n. sector_at n image) (omega (arith, has.from))
