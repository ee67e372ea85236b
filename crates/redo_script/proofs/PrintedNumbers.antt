-- A printed number is read as that number.
use Rattle.std.proofs.Common.{ℕ, ◌≡◌, ◌*◌, ◌+◌, ◌-◌, ◌^◌, ◌<◌, ◌≤◌, nat_le, nat_lt, true, List, length, Some, refl, arith, rules}
use Rattle.std.specs.List.{fold, list_all}
use Rattle.std.specs.Char.{is_ascii_digit}
use Rattle.std.specs.Fmt.{decimal}
use Rattle.std.proofs.lemmas.Bool.Decides.{nat_tests}
use Rattle.std.proofs.lemmas.Fmt.{decimal_nonempty, digits_decimal, digits_value-decimal, length-decimal-le}
use Rattle.std.proofs.lemmas.Str.Parse.{IsNumeralModel, numerals_by_fold}
use Rattle.model_script.specs.{digits_value, is_number, number_below}

-- the grammar's words for digits and their value
own_words : IsNumeralModel (λ text. list_all is_ascii_digit text ≡ true) digits_value
own_words =
    let more = λ (value : ℕ) (digits : List ℕ). fold (λ value digit. 10 * value + (digit - 48)) value digits in
    numerals_by_fold _ (search rules) more (search rules)

at_most : (m n : ℕ) → m ≤ n → nat_le m n ≡ true
at_most m n is = grind (arith, nat_tests)

below : (m n : ℕ) → m < n → nat_lt m n ≡ true
below m n is = grind (arith, nat_tests)

is_number-decimal : (n : ℕ) → n < 2 ^ 64 → is_number (decimal n) ≡ true
is_number-decimal n small =
    let some : 1 ≤ length (decimal n) = decimal_nonempty n small in
    let short : length (decimal n) ≤ 20 = length-decimal-le 20 n (omega arith) (omega arith) small in
    rw (at_most 1 (length (decimal n)) some, at_most (length (decimal n)) 20 short) (digits_decimal own_words n small)

pub number_below-decimal : (limit n : ℕ) → n < limit → n < 2 ^ 64 → number_below limit (decimal n) ≡ Some n
unfolding number_below
number_below-decimal limit n is small =
    rw (is_number-decimal n small, digits_value-decimal own_words n small, below n limit is) refl
