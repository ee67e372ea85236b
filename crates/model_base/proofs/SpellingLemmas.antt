-- No spelling is the front of another, and each is of one to five bytes.
use Rattle.std.proofs.Common.{◌≡◌, ℕ, ◌+◌, ◌-◌, ◌/◌, ◌%◌, ◌^◌, ◌<◌, ◌≤◌, List, [], ◌∷◌, ◌++◌, length, take, drop, refl, sym, ap, ◌∙◌, arith, inl, inr, length-append, slice_index}
use Rattle.std.proofs.lemmas.Bool.{cases_lt}
use Rattle.std.proofs.lemmas.List.{take_at, append_cancel_left, append_assoc}
use Rattle.std.specs.Int.{bytes_high_first}
use Rattle.model_base.specs.declared.table.Row.{Row}
use Rattle.model_base.specs.Spelling.{spelling32, spelling64}
use Rattle.model_base.specs.Table.{spelling_in, IsRow, IsRowOf, HasAllFrom}
use Rattle.model_base.proofs.ByteLemmas.{AreBytes, AreBytes-of_number, AreBytes-append, length-bytes_high_first, number_onto, number-bytes, pow256_le, drop-bytes_high_first}
use Rattle.model_base.proofs.TableLemmas.{row_holds, seven_bits, fourteen_bits, twenty_one_bits, twenty_eight_bits, whole, low_24_bits, low_17_bits, low_10_bits, seven_bits_from, fourteen_bits_from, twenty_one_bits_from, twenty_eight_bits_from, whole_from, low_24_bits_from, low_17_bits_from, low_10_bits_from, none_from}

-- each number has a row
pub row_for : (n : ℕ) → n < 2 ^ 32 → (row : Row) × IsRowOf n row
row_for n small =
    elim (cases_lt n 0x80) [
      | inl h0 ↦ (_, row_holds n _ seven_bits (omega arith) (omega arith))
      | inr h0 ↦ elim (cases_lt n 0x4000) [
        | inl h1 ↦ (_, row_holds n _ fourteen_bits (omega arith) (omega arith))
        | inr h1 ↦ elim (cases_lt n 0x20_0000) [
          | inl h2 ↦ (_, row_holds n _ twenty_one_bits (omega arith) (omega arith))
          | inr h2 ↦ elim (cases_lt n 0x1000_0000) [
            | inl h3 ↦ (_, row_holds n _ twenty_eight_bits (omega arith) (omega arith))
            | inr h3 ↦ elim (cases_lt n 0xFF00_0000) [
              | inl h4 ↦ (_, row_holds n _ whole (omega arith) (omega arith))
              | inr h4 ↦ elim (cases_lt n 0xFFFE_0000) [
                | inl h5 ↦ (_, row_holds n _ low_24_bits (omega arith) (omega arith))
                | inr h5 ↦ elim (cases_lt n 0xFFFF_FC00) [
                  | inl h6 ↦ (_, row_holds n _ low_17_bits (omega arith) (omega arith))
                  | inr h6 ↦ (_, row_holds n _ low_10_bits (omega arith) (omega arith))
                ]
              ]
            ]
          ]
        ]
      ]
    ]

pub spelling32-in : (n : ℕ) (row : Row) → IsRowOf n row → spelling32 n ≡ spelling_in row n
spelling32-in n row of = of.is_row.spelled n of.low of.high

pub length-spelling_in : (row : Row) (n : ℕ) → length (spelling_in row n) ≡ row.length
length-spelling_in row n = length-bytes_high_first row.length (row.text + (n - row.first))

pub length-spelling32 : (n : ℕ) → n < 2 ^ 32 → (1 ≤ length (spelling32 n)) × (length (spelling32 n) ≤ 5)
length-spelling32 n small =
    let found = row_for n small in
    let row = found.0 in
    let of : IsRowOf n row = found.1 in
    let is_row : IsRow row = of.is_row in
    let len : length (spelling32 n) ≡ row.length = ap length (spelling32-in n row of) ∙ length-spelling_in row n in
    (omega arith, omega arith)

pub AreBytes-spelling32 : (n : ℕ) → n < 2 ^ 32 → AreBytes (spelling32 n)
AreBytes-spelling32 n small =
    let found = row_for n small in
    let row = found.0 in
    rw (spelling32-in n row found.1) (AreBytes-of_number row.length (row.text + (n - row.first)))

pub length-spelling64 : (n : ℕ) → n < 2 ^ 64 → (5 ≤ length (spelling64 n)) × (length (spelling64 n) ≤ 9)
unfolding spelling64
length-spelling64 n small =
    let high = length-spelling32 (n / 2 ^ 32) (omega arith) in
    let both = length-append (spelling32 (n / 2 ^ 32)) (bytes_high_first 4 (n % 2 ^ 32)) in
    (omega arith, omega arith)

pub AreBytes-spelling64 : (n : ℕ) → n < 2 ^ 64 → AreBytes (spelling64 n)
unfolding spelling64
AreBytes-spelling64 n small =
    AreBytes-append (spelling32 (n / 2 ^ 32)) (bytes_high_first 4 (n % 2 ^ 32)) (AreBytes-spelling32 (n / 2 ^ 32) (omega arith)) (AreBytes-of_number 4 (n % 2 ^ 32))

-- the row of the numbers whose spellings begin with the first byte of this one's
pub row_from : (n byte : ℕ) → n < 2 ^ 32 → slice_index (spelling32 n) 0 ≡ byte → (row : Row) × HasAllFrom byte row
row_from n byte small is =
    let bytes = AreBytes-spelling32 n small in
    let top : byte < 256 = rw is at (bytes 0) in
    elim (cases_lt byte 0x80) [
      | inl h0 ↦ (_, seven_bits_from byte (omega arith) (omega arith))
      | inr h0 ↦ elim (cases_lt byte 0xC0) [
        | inl h1 ↦ (_, fourteen_bits_from byte (omega arith) (omega arith))
        | inr h1 ↦ elim (cases_lt byte 0xE0) [
          | inl h2 ↦ (_, twenty_one_bits_from byte (omega arith) (omega arith))
          | inr h2 ↦ elim (cases_lt byte 0xF0) [
            | inl h3 ↦ (_, twenty_eight_bits_from byte (omega arith) (omega arith))
            | inr h3 ↦ elim (cases_lt byte 0xF1) [
              | inl h4 ↦ (_, whole_from byte (omega arith) (omega arith))
              | inr h4 ↦ elim (cases_lt byte 0xF8) [
                | inl h5 ↦ absurd (none_from byte (inl (omega arith, omega arith)) n small is)
                | inr h5 ↦ elim (cases_lt byte 0xFC) [
                  | inl h6 ↦ (_, low_10_bits_from byte (omega arith) (omega arith))
                  | inr h6 ↦ elim (cases_lt byte 0xFE) [
                    | inl h7 ↦ (_, low_17_bits_from byte (omega arith) (omega arith))
                    | inr h7 ↦ elim (cases_lt byte 0xFF) [
                      | inl h8 ↦ (_, low_24_bits_from byte (omega arith) (omega arith))
                      | inr h8 ↦ absurd (none_from byte (inr (omega arith)) n small is)
                    ]
                  ]
                ]
              ]
            ]
          ]
        ]
      ]
    ]

pub slice_index-append : (xs ys : List ℕ) → 1 ≤ length xs → slice_index (xs ++ ys) 0 ≡ slice_index xs 0
slice_index-append [] ys some = absurd (omega arith)
slice_index-append (x ∷ xs) ys some = refl

-- the lowest k bytes of two numbers of k bytes are the same only if the numbers are
pub same_number : (k m n : ℕ) → m < 256 ^ k → n < 256 ^ k → bytes_high_first k m ≡ bytes_high_first k n → m ≡ n
same_number k m n sm sn same = sym (number-bytes k m sm) ∙ ap (number_onto 0) same ∙ number-bytes k n sn

-- two lists of one length with something after them that begin the same text
same_fronts : (xs ys x y : List ℕ) → length xs ≡ length ys → xs ++ x ≡ ys ++ y → (xs ≡ ys) × (x ≡ y)
same_fronts xs ys x y len same =
    let front : xs ≡ ys = sym (take_at xs x (length ys) len) ∙ ap (take (length ys)) same ∙ take_at ys y (length ys) refl in
    let moved : ys ++ x ≡ ys ++ y = rw front at same in
    (front, append_cancel_left ys x y moved)

pub one_spelling32 : (m n : ℕ) (x y : List ℕ) → m < 2 ^ 32 → n < 2 ^ 32 → spelling32 m ++ x ≡ spelling32 n ++ y → (m ≡ n) × (x ≡ y)
one_spelling32 m n x y sm sn same =
    let byte = slice_index (spelling32 n) 0 in
    let lm = length-spelling32 m sm in
    let ln = length-spelling32 n sn in
    let first : slice_index (spelling32 m) 0 ≡ byte =
    sym (slice_index-append (spelling32 m) x lm.0) ∙ ap (λ (s : List ℕ). slice_index s 0) same ∙ slice_index-append (spelling32 n) y ln.0 in
    let found = row_from n byte sn refl in
    let row = found.0 in
    let has : HasAllFrom byte row = found.1 in
    let is_row : IsRow row = has.is_row in
    let lowm = has.low m sm first in
    let highm = has.high m sm first in
    let lown = has.low n sn refl in
    let highn = has.high n sn refl in
    let em = is_row.spelled m lowm highm in
    let en = is_row.spelled n lown highn in
    let len : length (spelling32 m) ≡ length (spelling32 n) = ap length em ∙ length-spelling_in row m ∙ sym (length-spelling_in row n) ∙ ap length (sym en) in
    let parts = same_fronts (spelling32 m) (spelling32 n) x y len same in
    let fits = is_row.fits in
    let number = same_number row.length (row.text + (m - row.first)) (row.text + (n - row.first)) (omega arith) (omega arith) (sym em ∙ parts.0 ∙ en) in
    (omega arith, parts.1)

pub one_spelling64 : (m n : ℕ) (x y : List ℕ) → m < 2 ^ 64 → n < 2 ^ 64 → spelling64 m ++ x ≡ spelling64 n ++ y → (m ≡ n) × (x ≡ y)
unfolding spelling64
one_spelling64 m n x y sm sn same =
    let hm = spelling32 (m / 2 ^ 32) in
    let hn = spelling32 (n / 2 ^ 32) in
    let lm = bytes_high_first 4 (m % 2 ^ 32) in
    let ln = bytes_high_first 4 (n % 2 ^ 32) in
    let split : hm ++ (lm ++ x) ≡ hn ++ (ln ++ y) = sym (append_assoc hm lm x) ∙ same ∙ append_assoc hn ln y in
    let high = one_spelling32 (m / 2 ^ 32) (n / 2 ^ 32) (lm ++ x) (ln ++ y) (omega arith) (omega arith) split in
    let low = same_fronts lm ln x y refl high.1 in
    let number = same_number 4 (m % 2 ^ 32) (n % 2 ^ 32) (omega arith) (omega arith) low.0 in
    let top = high.0 in
    (omega arith, low.1)

-- the text of a number in a word
pub row_fits : (n : ℕ) (row : Row) → IsRowOf n row → row.text + (n - row.first) < 256 ^ 5
row_fits n row of =
    let is_row : IsRow row = of.is_row in
    let fits = is_row.fits in
    let most = pow256_le row.length 5 is_row.few_bytes in
    let low = of.low in
    let high = of.high in
    omega arith

pub length-in_row : (n : ℕ) (row : Row) → IsRowOf n row → length (spelling32 n) ≡ row.length
length-in_row n row of = ap length (spelling32-in n row of) ∙ length-spelling_in row n

-- a spelling is the end of its text in a word
pub word_end : (n : ℕ) (row : Row) → IsRowOf n row → drop (8 - row.length) (bytes_high_first 8 (row.text + (n - row.first))) ≡ spelling32 n
word_end n row of =
    let is_row : IsRow row = of.is_row in
    let few = is_row.few_bytes in
    drop-bytes_high_first 8 row.length (row.text + (n - row.first)) (omega arith) ∙ sym (spelling32-in n row of)

pub spelling64-halves : (n : ℕ) → spelling64 n ≡ spelling32 (n / 2 ^ 32) ++ bytes_high_first 4 (n % 2 ^ 32)
unfolding spelling64
spelling64-halves n = refl
