-- Lists of seats.
use Rattle.std.proofs.Common.{List, [], ap, get_or, map, suc, sym, zero, ℕ, ◌∙◌, ◌∷◌, ◌≡◌}
use lib.ListN.{get_elem?}
use mathlib.Core.Option as maybe

-- two heads of one list
pub one_head : {A : Type 0} (l : List A) (x y : A) → l ≡ x ∷ [] → l ≡ y ∷ [] → ◌≡◌ {A = A} x y
one_head {A} l x y e f = ap (λ (z : List A). get_or z 0 x) (sym e) ∙ ap (λ (z : List A). get_or z 0 x) f

pub at_map : {A B : Type 0} (f : A → B) (l : List A) (i : ℕ) (a : A) → get_elem? l i ≡ maybe.some a → get_elem? (map f l) i ≡ maybe.some (f a)
at_map f [] i a e = absurd (maybe.some-ne-none a (sym e))
at_map {A} f (x ∷ xs) zero a e = ap (λ (y : A). maybe.some (f y)) (maybe.some-injective x a e)
at_map f (x ∷ xs) (suc i) a e = at_map f xs i a e
