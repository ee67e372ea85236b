-- What becomes of a text of bytes that is lent to be written in place.
use Rattle.std.specs.Prelude.{ℕ, List, ◌++◌, length, take, drop}
use Rattle.std.specs.Borrow.{Lends, MutBor, Fml, Array, u8}
use Rattle.model_base.specs.contracts.bytes.Bytes.{the_row}

-- the old bytes with these over their front; a slice keeps its length, so these are all
abbrev pub written_over : List ℕ → List ℕ → List ℕ
written_over old new = take (length old) (new ++ drop (length new) old)

-- the text ends as what is left in the slice
abbrev pub LendsBytes : MutBor (List ℕ) → MutBor (List ℕ) → Fml
LendsBytes bytes slice = Lends the_row (Array u8 0) bytes slice (written_over bytes.now)
