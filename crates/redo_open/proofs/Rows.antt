-- Parts of a row of zeros.
use Rattle.std.proofs.Common.{◌≡◌, ◌≤◌, ℕ, List, length, take, refl, ap, ◌∙◌}
use Rattle.std.specs.Prelude.{replicate}
use Rattle.std.proofs.lemmas.List.{take-replicate, length-replicate}
use Rattle.redo_open.specs.Zeroing.{zeros}

pub zeros-is : (count : ℕ) → zeros count ≡ replicate count 0
unfolding zeros
zeros-is count = refl

pub length-zeros : (count : ℕ) → length (replicate {A = ℕ} count 0) ≡ count
length-zeros count = length-replicate count 0

pub front-zeros : (count all : ℕ) → count ≤ all → take count (zeros all) ≡ replicate count 0
unfolding zeros
front-zeros count all few = take-replicate count all 0 few

-- a part of a row of zeros
pub front-of : (count all : ℕ) (piece : List ℕ) → piece ≡ zeros all → count ≤ all → take count piece ≡ replicate count 0
front-of count all piece is few = ap (take count) is ∙ front-zeros count all few

pub length-front : (count all : ℕ) (piece : List ℕ) → piece ≡ zeros all → count ≤ all → length (take count piece) ≡ count
length-front count all piece is few = ap length (front-of count all piece is few) ∙ length-zeros count
