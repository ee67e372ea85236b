-- How many links stand, and what a store to one changes of that.
use Rattle.std.proofs.Common.{List, [], arith, length, refl, suc, zero, ℕ, ◌+◌, ◌<◌, ◌∷◌, ◌≡◌, ◌≤◌}
use Rattle.std.specs.Prelude.{slice_index, slice_set}

-- 1 for a number that isn't 0
abbrev pub one_if : ℕ → ℕ
one_if zero = 0
one_if (suc n) = 1

unfoldable pub links : List ℕ → ℕ
links [] = 0
links (x ∷ xs) = one_if x + links xs

one_at_most : (n : ℕ) → one_if n ≤ 1
one_at_most zero = omega arith
one_at_most (suc n) = omega arith

one_of : (n : ℕ) → 0 < n → one_if n ≡ 1
one_of zero h = absurd (omega arith)
one_of (suc n) h = refl

pub links_few : (l : List ℕ) → links l ≤ length l
unfolding links
links_few [] = omega arith
links_few (x ∷ xs) = let a = one_at_most x in let b = links_few xs in omega arith

pub links_more : (l : List ℕ) (i v : ℕ) → links (slice_set l i v) ≤ links l + 1
unfolding links
links_more [] i v = omega arith
links_more (x ∷ xs) zero v = let a = one_at_most v in omega arith
links_more (x ∷ xs) (suc i) v = let a = links_more xs i v in omega arith

pub links_less : (l : List ℕ) (i : ℕ) → 0 < slice_index l i → links (slice_set l i 0) < links l
unfolding links
links_less [] i h = absurd (omega arith)
links_less (x ∷ xs) zero h = let a = one_of x h in omega arith
links_less (x ∷ xs) (suc i) h = let a = links_less xs i h in omega arith

pub links_clear : (l : List ℕ) (i : ℕ) → links (slice_set l i 0) ≤ links l
unfolding links
links_clear [] i = omega arith
links_clear (x ∷ xs) zero = omega arith
links_clear (x ∷ xs) (suc i) = let a = links_clear xs i in omega arith
