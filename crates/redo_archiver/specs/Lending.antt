-- What becomes of the archiver's room for a block, which is lent to be written.
use Rattle.std.specs.Prelude.{List, ℕ}
use Rattle.std.specs.Borrow.{Array, Fml, Lends, MutBor, u8}
use Rattle.model_core.specs.{ReaderState}
use Rattle.redo_archiver.specs.contracts.archiver.Archiver.{the_row}

-- the archiver with these bytes as its block: nothing else of it changes
abbrev pub with_block : ReaderState → List ℕ → ReaderState
with_block archiver bytes = record archiver { block = bytes }

-- the archiver ends with what is left in the room as its block
abbrev pub LendsRoom : MutBor ReaderState → MutBor (List ℕ) → Fml
LendsRoom archiver room = Lends the_row (Array u8 512) archiver room (with_block archiver.now)
