-- The bytes of a number, the highest of them first.
use Rattle.std.proofs.Common.{◌≡◌, ℕ, zero, suc, ◌+◌, ◌-◌, ◌/◌, ◌%◌, ◌^◌, ◌<◌, List, ◌∷◌, length, drop, set, length-set, arith, refl, sym, ap, ◌∙◌, add-one}
use Rattle.std.proofs.Math.Nat.{div-div-eq-div-mul, div-one, pow-suc}
use Rattle.std.proofs.lemmas.List.{drop-set}
use Rattle.std.specs.Int.{byte_at, bytes_high_first}

byte_at-quotient : (i n : ℕ) → byte_at i n ≡ n / 256 ^ i % 256
byte_at-quotient zero n = ap (λ q. q % 256) (sym (div-one n))
byte_at-quotient (suc i) n = refl

-- one byte more
pub bytes_high_first-more : (i n : ℕ) → bytes_high_first (i + 1) n ≡ (n / 256 ^ i % 256) ∷ bytes_high_first i n
bytes_high_first-more i n = rw add-one (ap (λ byte. byte ∷ bytes_high_first i n) (byte_at-quotient i n))

-- what is left of a number once one byte more is written
pub quotient-more : (i n : ℕ) → n / 256 ^ i / 256 ≡ n / 256 ^ (i + 1)
quotient-more i n = div-div-eq-div-mul n (256 ^ i) 256 ∙ ap (λ p. n / p) (sym (pow-suc 256 i)) ∙ ap (λ k. n / 256 ^ k) (sym (add-one i))

-- the number of the last i bytes of a place, and then of one more
pub written-more : (place : List ℕ) (i left value : ℕ) → i < length place → left ≡ value / 256 ^ i
    → drop (length place - i) place ≡ bytes_high_first i value
    → drop (length (set place (length place - 1 - i) (left % 256)) - (i + 1)) (set place (length place - 1 - i) (left % 256))
    ≡ bytes_high_first (i + 1) value
written-more place i left value h q d =
    let at : length (set place (length place - 1 - i) (left % 256)) - (i + 1) ≡ length place - 1 - i =
    omega (arith, length-set place (length place - 1 - i) (left % 256)) in
    let next : length place - 1 - i + 1 ≡ length place - i = omega arith in
    let step = drop-set place (length place - 1 - i) (left % 256) (omega arith) in
    ap (λ n. drop n (set place (length place - 1 - i) (left % 256))) at ∙ step
    ∙ ap (λ rest. left % 256 ∷ rest) (ap (λ n. drop n place) next ∙ d)
    ∙ ap (λ x. x % 256 ∷ bytes_high_first i value) q ∙ sym (bytes_high_first-more i value)
