-- The word of a tail says the tail, and whether it is held.
use Rattle.std.proofs.Common.{Bool, ap, arith, cond, eqb, false, refl, suc, true, zero, ℕ, ◌%◌, ◌*◌, ◌+◌, ◌/◌, ◌∙◌, ◌≡◌}
use Rattle.model_core.specs.Lanes.{is_held, tail_of, tail_word}

pub tail_in : (tail : ℕ) (held : Bool) → tail_of (tail_word tail held) ≡ tail
tail_in tail true = omega arith
tail_in tail false = omega arith

pub held_in : (tail : ℕ) (held : Bool) → is_held (tail_word tail held) ≡ held
held_in tail true = ap (λ n. eqb n 1) (let z : (2 * tail + 1) % 2 ≡ 1 = omega arith in z)
held_in tail false = ap (λ n. eqb n 1) (let z : (2 * tail + 0) % 2 ≡ 0 = omega arith in z)

pub word_of : (word : ℕ) → tail_word (tail_of word) (is_held word) ≡ word
word_of word = by (word % 2) refl
  where
    by : (n : ℕ) → word % 2 ≡ n → tail_word (tail_of word) (is_held word) ≡ word
    by zero e = ap (λ n. 2 * (word / 2) + cond (eqb n 1) 1 0) e ∙ (let z : 2 * (word / 2) + 0 ≡ word = omega arith in z)
    by (suc zero) e = ap (λ n. 2 * (word / 2) + cond (eqb n 1) 1 0) e ∙ (let z : 2 * (word / 2) + 1 ≡ word = omega arith in z)
    by (suc (suc n)) e = absurd (omega arith)
