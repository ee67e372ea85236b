-- Texts that are cut at a byte.
use Rattle.std.specs.Prelude.{ℕ, ◌≡◌, ◌==◌, List, [], ◌∷◌, ◌++◌, false, Option, Some, None}
use Rattle.std.specs.List.{All, slice_split}
use Rattle.std.specs.Borrow.{Bor}

-- no byte of the text is this one
abbrev pub Lacks : ℕ → List ℕ → Type 0
Lacks byte text = All (λ other. (other == byte) ≡ false) text

-- the text up to the first such byte, and what stands after that, if there is one
abbrev pub IsCut : ℕ → List ℕ → List ℕ → Option (Bor (List ℕ)) → Type 0
IsCut byte text front None = (text ≡ front) × Lacks byte front
IsCut byte text front (Some rest) = (text ≡ front ++ byte ∷ rest.now) × Lacks byte front

-- the parts of what stands after a cut
abbrev pub parts_behind : ℕ → Option (Bor (List ℕ)) → List (List ℕ)
parts_behind byte None = []
parts_behind byte (Some rest) = slice_split (λ other. other == byte) rest.now
