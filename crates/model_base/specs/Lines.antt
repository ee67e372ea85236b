-- The lines of a text. A line feed ends a line; the last line may lack it. One carriage return at a line's end isn't
-- part of the line.
use Rattle.std.specs.Prelude.{ℕ, ◌==◌, if◌then◌else◌, List, [], ◌∷◌, map}

-- the byte at the front of the first line, which begins with it if there was none
abbrev pub onto_first : ℕ → List (List ℕ) → List (List ℕ)
onto_first byte [] = (byte ∷ []) ∷ []
onto_first byte (line ∷ lines) = (byte ∷ line) ∷ lines

-- the lines without their line feeds
abbrev pub fed_lines : List ℕ → List (List ℕ)
fed_lines [] = []
fed_lines (byte ∷ bytes) = if byte == 10 then [] ∷ fed_lines bytes else onto_first byte (fed_lines bytes)

-- the line without one carriage return at its end
abbrev pub without_return : List ℕ → List ℕ
without_return [] = []
without_return (byte ∷ []) = if byte == 13 then [] else byte ∷ []
without_return (byte ∷ second ∷ bytes) = byte ∷ without_return (second ∷ bytes)

-- the lines of a text, in order
unfoldable pub lines_of : List ℕ → List (List ℕ)
lines_of text = map without_return (fed_lines text)
