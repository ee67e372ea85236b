-- The bytes of printed words are digits and letters: none of them parts words, operations or lines.
use Rattle.std.proofs.Common.{ℕ, ◌≡◌, ◌≢◌, ◌==◌, ◌+◌, ◌%◌, ◌^◌, ◌<◌, ◌≤◌, ◌⊎◌, inl, inr, true, false, List, [], ◌∷◌, codes, arith}
use Rattle.std.specs.List.{All}
use Rattle.std.specs.Fmt.{decimal}
use Rattle.std.proofs.lemmas.Bool.{ne_eqb}
use Rattle.std.proofs.lemmas.Bool.Decides.{nat_tests}
use Rattle.std.proofs.lemmas.Fmt.{decimal_by_steps}
use Rattle.std.proofs.lemmas.List.Elements.{All-append, All-cons, All-nil, All-push, All-weaker}
use Rattle.hex.specs.Hex.{IsBytes, encode_lower, is_hex_digit}
use Rattle.hex.proofs.HexLemmas.{decode_of-encode_lower, decode_of-ok}
use Rattle.model_script.specs.{mode_name, number_name}
use Rattle.redo_script.specs.Cut.{Lacks}

-- a byte of a word: no space, `#`, line feed or carriage return, and no semicolon
pub record IsPlain (byte : ℕ) : Type 0 where
  pub from : 48 ≤ byte
  pub apart : byte ≢ 59

-- no word has the byte
abbrev pub IsApart : ℕ → Type 0
IsApart apart = (byte : ℕ) → IsPlain byte → (byte == apart) ≡ false

pub apart_below : (apart : ℕ) → apart < 48 → IsApart apart
apart_below apart low byte plain = ne_eqb byte apart (λ same. omega arith)

pub apart_semicolon : IsApart 59
apart_semicolon byte plain = ne_eqb byte 59 plain.apart

pub lacks_plain : (apart : ℕ) (text : List ℕ) → IsApart apart → All IsPlain text → Lacks apart text
lacks_plain apart text is plain = All-weaker IsPlain (λ byte. (byte == apart) ≡ false) is text plain

plain_one : (byte : ℕ) → 48 ≤ byte → byte ≢ 59 → All IsPlain (byte ∷ [])
plain_one byte from apart = All-cons IsPlain byte [] (record { from = from; apart = apart }) (All-nil IsPlain)

plain_digit : (digit : ℕ) → digit < 10 → IsPlain (48 + digit)
plain_digit digit below = record { from = omega arith; apart = λ same. omega arith }

pub plain_decimal : (n : ℕ) → n < 2 ^ 64 → All IsPlain (decimal n)
plain_decimal n small =
    decimal_by_steps (λ n digits. All IsPlain digits)
    (λ n below. All-cons IsPlain (48 + n) [] (plain_digit n below) (All-nil IsPlain))
    (λ n digits over plain. All-push IsPlain digits (48 + n % 10) plain (plain_digit (n % 10) (omega arith)))
    n small

plain_hex_digit : (byte : ℕ) → is_hex_digit byte ≡ true → IsPlain byte
plain_hex_digit byte is = record { from = grind (arith, nat_tests); apart = λ same. grind (arith, nat_tests) }

pub plain_hex : (bytes : List ℕ) → IsBytes bytes → All IsPlain (encode_lower bytes)
plain_hex bytes are =
    let facts = decode_of-ok (encode_lower bytes) bytes (decode_of-encode_lower bytes are) in
    All-weaker (λ byte. is_hex_digit byte ≡ true) IsPlain plain_hex_digit (encode_lower bytes) facts.1

pub plain_number_name : (width : ℕ) → width < 2 ^ 64 → All IsPlain (number_name width)
plain_number_name width small =
    All-append IsPlain (codes "b") (decimal width) (plain_one 98 (omega arith) (λ same. omega arith)) (plain_decimal width small)

pub plain_string_name : All IsPlain (codes "s")
plain_string_name = plain_one 115 (omega arith) (λ same. omega arith)

pub plain_init_name : All IsPlain (codes "i")
plain_init_name = plain_one 105 (omega arith) (λ same. omega arith)

pub plain_mode : (mode : ℕ) → (mode ≡ 1) ⊎ (mode ≡ 2) ⊎ (mode ≡ 0) → All IsPlain (mode_name mode)
plain_mode mode (inl is) = rw is (plain_one 102 (omega arith) (λ same. omega arith))
plain_mode mode (inr (inl is)) = rw is (plain_one 119 (omega arith) (λ same. omega arith))
plain_mode mode (inr (inr is)) = rw is (plain_one 110 (omega arith) (λ same. omega arith))
