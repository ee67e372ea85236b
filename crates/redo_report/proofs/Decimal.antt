-- The digits of a number, the last one apart.
use Rattle.std.proofs.Common.{ℕ, ◌≡◌, ◌+◌, ◌/◌, ◌%◌, ◌^◌, ◌<◌, ◌≤◌, [], ◌∷◌, ◌++◌, List, length, ap, sym, ◌∙◌, append_assoc, length-append, arith}
use Rattle.std.specs.Fmt.{decimal}
use Rattle.std.proofs.lemmas.Fmt.{decimal_step, decimal_digit, length-decimal-le}

-- one digit more than the number without its last digit has
pub length-decimal_step : (n : ℕ) → 10 ≤ n → n < 2 ^ 64 → length (decimal n) ≡ length (decimal (n / 10)) + 1
length-decimal_step n large small =
    ap length (decimal_step n large small) ∙ length-append (decimal (n / 10)) ((48 + n % 10) ∷ [])

-- the last digit after the others
pub decimal_after : (text : List ℕ) (n : ℕ) → 10 ≤ n → n < 2 ^ 64 → (text ++ decimal (n / 10)) ++ (48 + n % 10) ∷ [] ≡ text ++ decimal n
decimal_after text n large small =
    append_assoc text (decimal (n / 10)) ((48 + n % 10) ∷ []) ∙ ap (λ digits. text ++ digits) (sym (decimal_step n large small))

-- a number of one digit
pub decimal_one : (n : ℕ) → n < 10 → decimal n ≡ (48 + n % 10) ∷ []
decimal_one n small =
    let same : n % 10 ≡ n = omega arith in
    decimal_digit n small ∙ ap (λ digit. (48 + digit) ∷ []) (sym same)

pub ruleset lasts = (length-decimal_step, decimal_after, decimal_one)

-- a number of 64 bits has at most twenty digits
pub length_decimal : (n : ℕ) → n < 2 ^ 64 → length (decimal n) ≤ 20
length_decimal n small = length-decimal-le 20 n (omega arith) (omega arith) small
