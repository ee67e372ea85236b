-- What is collected below a number, and that a group has a text.
use Rattle.std.proofs.Common.{List, [], ap, arith, length, length-append, refl, suc, ℕ, ◌++◌, ◌+◌, ◌<◌, ◌∷◌, ◌≡◌}
use Rattle.std.specs.List.{flat_map}
use Rattle.model_core.specs.Changes.{collected}
use Rattle.model_log.specs.{group_text, IsGroup, record_text, single_text}
use Rattle.model_log.specs.declared.rec.Rec.{Rec}

pub collected_none : {A : Type 0} (f : ℕ → List A) → collected f 0 ≡ []
unfolding collected
collected_none f = refl

pub collected_next : {A : Type 0} (f : ℕ → List A) (n : ℕ) → collected f (n + 1) ≡ collected f n ++ f n
unfolding collected
collected_next f n = ap (λ (k : ℕ). collected f k) (let e : n + 1 ≡ suc n = omega arith in e)

pub group_has_text : (group : List Rec) → IsGroup group → 0 < length (group_text group)
unfolding group_text single_text
group_has_text [] is = absurd (is.some refl)
group_has_text (rec ∷ []) is = omega arith
group_has_text (rec ∷ second ∷ others) is = omega (arith, length-append (flat_map record_text (rec ∷ second ∷ others)) (31 ∷ []))
