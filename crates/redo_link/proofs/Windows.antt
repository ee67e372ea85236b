-- The places of a window and their slots, and the link of a place read from its slot.
use Rattle.std.proofs.Common.{◌≡◌, ◌≢◌, ◌≤◌, ◌<◌, ◌+◌, ◌-◌, ◌*◌, ◌/◌, ◌%◌, ℕ, true, cond, ◌&&◌, ltb, length, get_or, ⊎_elim, sym, ap, ◌∙◌, arith}
use Rattle.std.proofs.lemmas.Bool.{cases_lt, lt-ltb, le-ltb, le-leb, lt-leb}
use Rattle.std.proofs.lemmas.Nat.{div-add-mod', mod_below}
use Rattle.std.proofs.Math.Nat.{mul-le-mul_left, add-mul-mod_self_right}
use Rattle.redo_link.specs.Links.{Links, link_at}

-- two places of one window that share a slot are the same
slots-same : (n p q : ℕ) → p % n ≡ q % n → p ≤ q → q < p + n → p ≡ q
slots-same n p q same low high =
    let first : p / n * n + p % n ≡ p = div-add-mod' p n in
    let second : q / n * n + q % n ≡ q = div-add-mod' q n in
    ⊎_elim (λ less. absurd (let next : p / n + 1 ≤ q / n = omega (arith, less) in omega (arith, first, second, same, mul-le-mul_left n next, high)))
    (λ most. omega (arith, first, second, same, mul-le-mul_left n most, low)) (cases_lt (p / n) (q / n))

pub slots-apart : (n t p q : ℕ) → t ≤ p → p < t + n → t ≤ q → q < t + n → p ≢ q → p % n ≢ q % n
slots-apart n t p q p_low p_high q_low q_high other =
    λ same. ⊎_elim (λ less. other (slots-same n p q same (omega (arith, less)) (omega (arith, p_low, q_high))))
    (λ most. other (sym (slots-same n q p (sym same) most (omega (arith, q_low, p_high))))) (cases_lt p q)

-- the place of the window from t on that shares its slot with a place past the window
pub record Shares (n t p : ℕ) : Type 0 where
  pub place : ℕ
  pub low : t ≤ place
  pub high : place < t + n
  pub slot : p % n ≡ place % n
  pub behind : place + n ≤ p

pub shares : (n t p : ℕ) → 0 < n → t + n ≤ p → Shares n t p
shares n t p some far =
    let m : ℕ = p - t in
    let parts : m / n * n + m % n ≡ m = div-add-mod' m n in
    let small : m % n < n = mod_below m n some in
    let whole : 1 ≤ m / n =
    ⊎_elim (λ none. absurd (let zero : m / n ≤ 0 = omega (arith, none) in omega (arith, parts, small, mul-le-mul_left n zero, far))) (λ is. is) (cases_lt (m / n) 1) in
    let whole_long : n * 1 ≤ n * (m / n) = mul-le-mul_left n whole in
    record {
      place = t + m % n;
      low = omega arith;
      high = omega (arith, small);
      slot = (
          let sum : p ≡ t + m % n + m / n * n = omega (arith, parts, far) in
          ap (λ k. k % n) sum ∙ add-mul-mod_self_right (t + m % n) (m / n) n);
      behind = omega (arith, parts, whole_long, far);
    }

pub at-inside : (links : Links) (n place : ℕ) → length links.slots ≡ n → links.tail ≤ place → place < links.tail + n → link_at links place ≡ get_or links.slots (place % n) 0
at-inside links n place long low high =
    let slot : ℕ = get_or links.slots (place % length links.slots) 0 in
    ap (λ b. cond (b && ltb place (links.tail + length links.slots)) slot 0) (le-leb links.tail place low)
    ∙ ap (λ b. cond (true && b) slot 0) (lt-ltb place (links.tail + length links.slots) (omega (arith, high, long)))
    ∙ ap (λ m. get_or links.slots (place % m) 0) long

-- no link starts below the tail
pub at-below : (links : Links) (place : ℕ) → place < links.tail → link_at links place ≡ 0
at-below links place low =
    ap (λ b. cond (b && ltb place (links.tail + length links.slots)) (get_or links.slots (place % length links.slots) 0) 0) (lt-leb links.tail place low)

-- nor does one start past the window
pub at-behind : (links : Links) (n place : ℕ) → length links.slots ≡ n → links.tail + n ≤ place → link_at links place ≡ 0
at-behind links n place long far =
    let slot : ℕ = get_or links.slots (place % length links.slots) 0 in
    ap (λ b. cond (b && ltb place (links.tail + length links.slots)) slot 0) (le-leb links.tail place (omega (arith, far)))
    ∙ ap (λ b. cond (true && b) slot 0) (le-ltb place (links.tail + length links.slots) (omega (arith, far, long)))
