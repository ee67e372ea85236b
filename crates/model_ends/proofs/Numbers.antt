-- Numbers of a measure, and whose turn comes when.
use Rattle.std.proofs.Common.{arith, suc, ℕ, ◌%◌, ◌*◌, ◌+◌, ◌-◌, ◌/◌, ◌<◌, ◌∙◌, ◌≡◌, ◌≤◌, ap}
use Rattle.std.proofs.Math.Nat.{mod-add-div', mul-le-mul_right}
use Rattle.std.proofs.lemmas.Nat.{mod-mul-add}
use native.Mathlib.Decide.{dec_le}

-- the turn of each seat comes within as many turns as there are seats
pub next_turn : (i seat n : ℕ) → seat < n → (t : ℕ) × (t < n) × ((i + t) % n ≡ seat)
next_turn i seat n less =
    let parts = mod-add-div' i n in
    let few : i % n < n = omega arith in
    elim (dec_le (i % n) seat) [
      | yes d ↦ (seat - i % n, omega arith, (let is : i + (seat - i % n) ≡ i / n * n + seat = omega arith in ap (λ (k : ℕ). k % n) is ∙ mod-mul-add (i / n) n seat less))
      | no d ↦ (seat + n - i % n, omega arith, (let is : i + (seat + n - i % n) ≡ (i / n + 1) * n + seat = omega arith in ap (λ (k : ℕ). k % n) is ∙ mod-mul-add (i / n + 1) n seat less))
    ]

-- what is left to do, the helper's weight, and the turns until its turn comes
abbrev pub measure : ℕ → ℕ → ℕ → ℕ → ℕ
measure n rank weight t = rank * (21 * n) + (weight * n + t)

module _ (n : ℕ) where
  pub measure_most : (rank weight t : ℕ) → weight ≤ 20 → t < n → measure n rank weight t < (rank + 1) * (21 * n)
  measure_most rank weight t light soon = let w = mul-le-mul_right n light in omega arith

  pub rank_falls : (rank rank' weight t weight' t' : ℕ) → rank' < rank → weight' ≤ 20 → t' < n → measure n rank' weight' t' < measure n rank weight t
  rank_falls rank rank' weight t weight' t' less light soon = let m = measure_most rank' weight' t' light soon in let r : (rank' + 1) * (21 * n) ≤ rank * (21 * n) = mul-le-mul_right (21 * n) (omega arith) in omega arith

  pub weight_falls : (rank rank' weight t weight' t' : ℕ) → rank' ≤ rank → weight' < weight → t' < n → measure n rank' weight' t' < measure n rank weight t
  weight_falls rank rank' weight t weight' t' le less soon = let w : (weight' + 1) * n ≤ weight * n = mul-le-mul_right n (omega arith) in let r : rank' * (21 * n) ≤ rank * (21 * n) = mul-le-mul_right (21 * n) le in omega arith

  pub turn_nears : (rank rank' weight weight' t : ℕ) → rank' ≤ rank → weight' ≤ weight → measure n rank' weight' t < measure n rank weight (suc t)
  turn_nears rank rank' weight weight' t le light = let w : weight' * n ≤ weight * n = mul-le-mul_right n light in let r : rank' * (21 * n) ≤ rank * (21 * n) = mul-le-mul_right (21 * n) le in omega arith

  pub measure_within : (rank most weight t : ℕ) → rank ≤ most → weight ≤ 20 → t < n → measure n rank weight t < 21 * n * (most + 1)
  measure_within rank most weight t le light soon = let m = measure_most rank weight t light soon in let r : (rank + 1) * (21 * n) ≤ (most + 1) * (21 * n) = mul-le-mul_right (21 * n) (omega arith) in omega arith
