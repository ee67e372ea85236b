-- The lines of a text with their numbers.
use Rattle.std.specs.Prelude.{ℕ, List}
use Rattle.std.specs.List.{enumerate_from}
use Rattle.model_base.specs.{lines_of}

-- the lines of a text, the first of which has this number
abbrev pub numbered_from : ℕ → List ℕ → List (ℕ × List ℕ)
numbered_from first text = enumerate_from first (lines_of text)
