-- Each row of the table spells its numbers, and the rows' first bytes tell them apart.
use Rattle.std.proofs.Common.{◌≡◌, ℕ, Bool, true, ◌&&◌, nat_le, nat_lt, ◌+◌, ◌-◌, ◌*◌, ◌/◌, ◌%◌, ◌^◌, ◌<◌, ◌≤◌, cond, refl, sym, arith, lt-ltb, le-ltb, ltb, slice_index, inl, inr, ◌⊎◌}
use Rattle.std.proofs.lemmas.Bool.Decides.{nat_tests}
use Rattle.std.proofs.lemmas.Bool.{cases_lt}
use Rattle.model_base.specs.declared.table.TheConstants.{SEVEN_BITS, FOURTEEN_BITS, TWENTY_ONE_BITS, TWENTY_EIGHT_BITS, WHOLE, LOW_24_BITS, LOW_17_BITS, LOW_10_BITS}
use Rattle.model_base.specs.Spelling.{spelling32}
use Rattle.model_base.specs.declared.table.Row.{Row}
use Rattle.model_base.specs.Table.{spelling_in, IsRow, IsRowOf, HasAllFrom, BeginsNone}
use Rattle.model_base.proofs.ByteLemmas.{bytes-parts}

-- the sizes of a row, as the table has them
is_sized : Row → Bool
is_sized row =
    nat_le 1 row.length && nat_le row.length 5 && nat_le row.first row.last && nat_lt row.last (2 ^ 32)
    && nat_lt (row.text + (row.last - row.first)) (256 ^ row.length)

tested : (row : Row) → is_sized row ≡ true → ((n : ℕ) → row.first ≤ n → n ≤ row.last → spelling32 n ≡ spelling_in row n) → IsRow row
unfolding is_sized
tested row sized spelled = record {
  some_bytes = grind (arith, nat_tests);
  few_bytes = grind (arith, nat_tests);
  ordered = grind (arith, nat_tests);
  small = grind (arith, nat_tests);
  fits = grind (arith, nat_tests);
  spelled = spelled;
}

-- a number between the ends of a row is one of it
pub row_holds : (n : ℕ) (row : Row) → IsRow row → row.first ≤ n → n ≤ row.last → IsRowOf n row
row_holds n row is_row low high = record { is_row = is_row; low = low; high = high }

pub seven_bits : IsRow SEVEN_BITS
unfolding spelling32 is_sized
seven_bits = tested SEVEN_BITS refl (λ n low high.
    let text : 0x00 + (n - 0x00) ≡ n = omega arith in
    rw (lt-ltb n 0x80 (omega arith), text) refl)

pub fourteen_bits : IsRow FOURTEEN_BITS
unfolding spelling32 is_sized
fourteen_bits = tested FOURTEEN_BITS refl (λ n low high.
    let text : 0x8080 + (n - 0x80) ≡ 0x8000 + n = omega arith in
    rw (le-ltb n 0x80 (omega arith), lt-ltb n 0x4000 (omega arith), text) refl)

pub twenty_one_bits : IsRow TWENTY_ONE_BITS
unfolding spelling32 is_sized
twenty_one_bits = tested TWENTY_ONE_BITS refl (λ n low high.
    let text : 0xC0_4000 + (n - 0x4000) ≡ 0xC0_0000 + n = omega arith in
    rw (le-ltb n 0x80 (omega arith), le-ltb n 0x4000 (omega arith), lt-ltb n 0x20_0000 (omega arith), text) refl)

pub twenty_eight_bits : IsRow TWENTY_EIGHT_BITS
unfolding spelling32 is_sized
twenty_eight_bits = tested TWENTY_EIGHT_BITS refl (λ n low high.
    let text : 0xE020_0000 + (n - 0x20_0000) ≡ 0xE000_0000 + n = omega arith in
    rw (le-ltb n 0x80 (omega arith), le-ltb n 0x4000 (omega arith), le-ltb n 0x20_0000 (omega arith), lt-ltb n 0x1000_0000 (omega arith), text) refl)

pub whole : IsRow WHOLE
unfolding spelling32 is_sized
whole = tested WHOLE refl (λ n low high.
    let text : 0xF0_1000_0000 + (n - 0x1000_0000) ≡ 0xF0 * 256 ^ 4 + n = omega arith in
    rw (le-ltb n 0x80 (omega arith), le-ltb n 0x4000 (omega arith), le-ltb n 0x20_0000 (omega arith), le-ltb n 0x1000_0000 (omega arith), lt-ltb n 0xFF00_0000 (omega arith), text) (sym (bytes-parts 1 4 0xF0 n (omega arith) (omega arith))))

pub low_24_bits : IsRow LOW_24_BITS
unfolding spelling32 is_sized
low_24_bits = tested LOW_24_BITS refl (λ n low high.
    let text : 0xFE00_0000 + (n - 0xFF00_0000) ≡ 0xFE00_0000 + n % 0x100_0000 = omega arith in
    rw (le-ltb n 0x80 (omega arith), le-ltb n 0x4000 (omega arith), le-ltb n 0x20_0000 (omega arith), le-ltb n 0x1000_0000 (omega arith), le-ltb n 0xFF00_0000 (omega arith), lt-ltb n 0xFFFE_0000 (omega arith), text) refl)

pub low_17_bits : IsRow LOW_17_BITS
unfolding spelling32 is_sized
low_17_bits = tested LOW_17_BITS refl (λ n low high.
    let text : 0xFC_0000 + (n - 0xFFFE_0000) ≡ 0xFC_0000 + n % 0x2_0000 = omega arith in
    rw (le-ltb n 0x80 (omega arith), le-ltb n 0x4000 (omega arith), le-ltb n 0x20_0000 (omega arith), le-ltb n 0x1000_0000 (omega arith), le-ltb n 0xFF00_0000 (omega arith), le-ltb n 0xFFFE_0000 (omega arith), lt-ltb n 0xFFFF_FC00 (omega arith), text) refl)

pub low_10_bits : IsRow LOW_10_BITS
unfolding spelling32 is_sized
low_10_bits = tested LOW_10_BITS refl (λ n low high.
    let text : 0xF800 + (n - 0xFFFF_FC00) ≡ 0xF800 + n % 0x400 = omega arith in
    rw (le-ltb n 0x80 (omega arith), le-ltb n 0x4000 (omega arith), le-ltb n 0x20_0000 (omega arith), le-ltb n 0x1000_0000 (omega arith), le-ltb n 0xFF00_0000 (omega arith), le-ltb n 0xFFFE_0000 (omega arith), le-ltb n 0xFFFF_FC00 (omega arith), text) refl)

-- the first byte of a number's spelling
abbrev head_of : ℕ → ℕ
head_of n =
    cond (ltb n 0x80) n
    (cond (ltb n 0x4000) (0x80 + n / 2 ^ 8)
    (cond (ltb n 0x20_0000) (0xC0 + n / 2 ^ 16)
    (cond (ltb n 0x1000_0000) (0xE0 + n / 2 ^ 24)
    (cond (ltb n 0xFF00_0000) 0xF0
    (cond (ltb n 0xFFFE_0000) 0xFE
    (cond (ltb n 0xFFFF_FC00) (0xFC + (n - 0xFFFE_0000) / 2 ^ 16)
    (0xF8 + (n - 0xFFFF_FC00) / 2 ^ 8)))))))

head-spelling32 : (n : ℕ) → n < 2 ^ 32 → slice_index (spelling32 n) 0 ≡ head_of n
unfolding spelling32
head-spelling32 n small =
    elim (cases_lt n 0x80) [
      | inl h0 ↦ rw (lt-ltb n 0x80 h0) (omega arith)
      | inr h0 ↦ rw (le-ltb n 0x80 h0)
          (elim (cases_lt n 0x4000) [
            | inl h1 ↦ rw (lt-ltb n 0x4000 h1) (omega arith)
            | inr h1 ↦ rw (le-ltb n 0x4000 h1)
                (elim (cases_lt n 0x20_0000) [
                  | inl h2 ↦ rw (lt-ltb n 0x20_0000 h2) (omega arith)
                  | inr h2 ↦ rw (le-ltb n 0x20_0000 h2)
                      (elim (cases_lt n 0x1000_0000) [
                        | inl h3 ↦ rw (lt-ltb n 0x1000_0000 h3) (omega arith)
                        | inr h3 ↦ rw (le-ltb n 0x1000_0000 h3)
                            (elim (cases_lt n 0xFF00_0000) [
                              | inl h4 ↦ rw (lt-ltb n 0xFF00_0000 h4) (omega arith)
                              | inr h4 ↦ rw (le-ltb n 0xFF00_0000 h4)
                                  (elim (cases_lt n 0xFFFE_0000) [
                                    | inl h5 ↦ rw (lt-ltb n 0xFFFE_0000 h5) (omega arith)
                                    | inr h5 ↦ rw (le-ltb n 0xFFFE_0000 h5)
                                        (elim (cases_lt n 0xFFFF_FC00) [
                                          | inl h6 ↦ rw (lt-ltb n 0xFFFF_FC00 h6) (omega arith)
                                          | inr h6 ↦ rw (le-ltb n 0xFFFF_FC00 h6)
                                              (omega arith)
                                        ])
                                  ])
                            ])
                      ])
                ])
          ])
    ]

begun : (byte : ℕ) (row : Row) → IsRow row → ((n : ℕ) → n < 2 ^ 32 → slice_index (spelling32 n) 0 ≡ byte → (row.first ≤ n) × (n ≤ row.last)) → HasAllFrom byte row
begun byte row is_row between = record {
  is_row = is_row;
  low = λ n small is. (between n small is).0;
  high = λ n small is. (between n small is).1;
}

pub seven_bits_from : (byte : ℕ) → 0x00 ≤ byte → byte ≤ 0x7F → HasAllFrom byte SEVEN_BITS
seven_bits_from byte above below =
    begun byte SEVEN_BITS seven_bits (λ n small is. let head = head-spelling32 n small in (grind (arith, nat_tests), grind (arith, nat_tests)))

pub fourteen_bits_from : (byte : ℕ) → 0x80 ≤ byte → byte ≤ 0xBF → HasAllFrom byte FOURTEEN_BITS
fourteen_bits_from byte above below =
    begun byte FOURTEEN_BITS fourteen_bits (λ n small is. let head = head-spelling32 n small in (grind (arith, nat_tests), grind (arith, nat_tests)))

pub twenty_one_bits_from : (byte : ℕ) → 0xC0 ≤ byte → byte ≤ 0xDF → HasAllFrom byte TWENTY_ONE_BITS
twenty_one_bits_from byte above below =
    begun byte TWENTY_ONE_BITS twenty_one_bits (λ n small is. let head = head-spelling32 n small in (grind (arith, nat_tests), grind (arith, nat_tests)))

pub twenty_eight_bits_from : (byte : ℕ) → 0xE0 ≤ byte → byte ≤ 0xEF → HasAllFrom byte TWENTY_EIGHT_BITS
twenty_eight_bits_from byte above below =
    begun byte TWENTY_EIGHT_BITS twenty_eight_bits (λ n small is. let head = head-spelling32 n small in (grind (arith, nat_tests), grind (arith, nat_tests)))

pub whole_from : (byte : ℕ) → 0xF0 ≤ byte → byte ≤ 0xF0 → HasAllFrom byte WHOLE
whole_from byte above below =
    begun byte WHOLE whole (λ n small is. let head = head-spelling32 n small in (grind (arith, nat_tests), grind (arith, nat_tests)))

pub low_24_bits_from : (byte : ℕ) → 0xFE ≤ byte → byte ≤ 0xFE → HasAllFrom byte LOW_24_BITS
low_24_bits_from byte above below =
    begun byte LOW_24_BITS low_24_bits (λ n small is. let head = head-spelling32 n small in (grind (arith, nat_tests), grind (arith, nat_tests)))

pub low_17_bits_from : (byte : ℕ) → 0xFC ≤ byte → byte ≤ 0xFD → HasAllFrom byte LOW_17_BITS
low_17_bits_from byte above below =
    begun byte LOW_17_BITS low_17_bits (λ n small is. let head = head-spelling32 n small in (grind (arith, nat_tests), grind (arith, nat_tests)))

pub low_10_bits_from : (byte : ℕ) → 0xF8 ≤ byte → byte ≤ 0xFB → HasAllFrom byte LOW_10_BITS
low_10_bits_from byte above below =
    begun byte LOW_10_BITS low_10_bits (λ n small is. let head = head-spelling32 n small in (grind (arith, nat_tests), grind (arith, nat_tests)))

pub none_from : (byte : ℕ) → ((0xF1 ≤ byte) × (byte ≤ 0xF7)) ⊎ (byte ≡ 0xFF) → BeginsNone byte
none_from byte which n small is = let head = head-spelling32 n small in grind (arith, nat_tests)
