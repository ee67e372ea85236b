-- The value of digits.
use Rattle.std.proofs.Common.{ℕ, ◌≡◌, ◌&&◌, ◌*◌, ◌+◌, ◌-◌, ◌<◌, ◌≤◌, ◌^◌, Bool, true, false, leb, List, [], ◌∷◌, length, take, drop, get_or, subst, arith}
use Rattle.std.specs.List.{fold, list_all, AllPass}
use Rattle.std.specs.Char.{is_ascii_digit}
use Rattle.std.proofs.lemmas.List.{take-append-drop}
use Rattle.std.proofs.lemmas.List.Sums.{fold_more, AllPass-from_list_all}
use Rattle.std.proofs.lemmas.Grind.{fold-append}
use Rattle.std.proofs.lemmas.Bool.Decides.{nat_tests}
use Rattle.model_script.specs.{digits_value, is_number}

-- one digit more
pub digits_value_more : (digits : List ℕ) (i : ℕ) → i < length digits → digits_value (take (i + 1) digits) ≡ 10 * digits_value (take i digits) + (get_or digits i 0 - 48)
digits_value_more digits i below = fold_more (λ value digit. 10 * value + (digit - 48)) 0 digits i 0 below

fold_grows : (value : ℕ) (digits : List ℕ) → value ≤ fold (λ value digit. 10 * value + (digit - 48)) value digits
fold_grows value [] = omega arith
fold_grows value (digit ∷ digits) = omega (arith, fold_grows (10 * value + (digit - 48)) digits)

-- the value of the first digits is at most that of all
pub digits_value-take_le : (digits : List ℕ) (i : ℕ) → digits_value (take i digits) ≤ digits_value digits
digits_value-take_le digits i =
    let P : List ℕ → Type 0 = λ all. digits_value (take i digits) ≤ digits_value all in
    let joined = fold-append (λ value digit. 10 * value + (digit - 48)) 0 (take i digits) (drop i digits) in
    subst P (take-append-drop i digits) (rw joined (fold_grows (digits_value (take i digits)) (drop i digits)))

-- where the first digits and the next one are too large, all are
pub too_large : (digits : List ℕ) (i value : ℕ) → i < length digits → value ≡ digits_value (take i digits) → (10 * value + (get_or digits i 0 - 48) < 2 ^ 64 → ⊥) → digits_value digits < 2 ^ 64 → ⊥
too_large digits i value below is large small =
    let more = digits_value_more digits i below in
    let front = digits_value-take_le digits (i + 1) in
    large (rw is (omega (arith, more, front)))

pub ruleset values = (digits_value_more, digits_value-take_le)

and-right : (a b : Bool) → (a && b) ≡ true → b ≡ true
and-right true b e = e
and-right false b e = absurd (cc)

-- a number has digits alone
pub AllPass-is_number : (text : List ℕ) → is_number text ≡ true → AllPass is_ascii_digit text
AllPass-is_number text is =
    AllPass-from_list_all is_ascii_digit text (and-right (leb (length text) 20) (list_all is_ascii_digit text) (and-right (leb 1 (length text)) (leb (length text) 20 && list_all is_ascii_digit text) is))

pub ruleset numbers = (AllPass-is_number, nat_tests)
