-- The number that bytes make.
use Rattle.std.specs.Prelude.{ℕ, ◌+◌, ◌*◌, List, fold}

-- the number that these bytes make, the highest first
abbrev pub number_from_bytes : List ℕ → ℕ
number_from_bytes bytes = fold (λ number byte. number * 256 + byte) 0 bytes
