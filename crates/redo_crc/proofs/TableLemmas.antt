-- Bytes by the tables: what a byte and each byte of the register do stands apart from what the others do.
use Rattle.std.proofs.Common.{◌≡◌, ℕ, zero, suc, true, false, [], ◌∷◌, length, take, drop, ◌*◌, ◌/◌, ◌%◌, ◌^◌, ◌<◌, List, ◌++◌, map, get_or, cond, eqb, refl, sym, ap, ◌∙◌, arith, fold, bit_xor, bit_and}
use Rattle.std.specs.List.{range_with_len}
use Rattle.std.proofs.lemmas.List.FromFn.{get_or-map-range_with_len}
use Rattle.std.proofs.lemmas.List.Sums.{fold-append}
use Rattle.std.proofs.lemmas.List.{take-append-drop}
use Rattle.std.proofs.lemmas.Nat.{xor_shr, xor_mod, and_mask}
use lib.Bits.{xor_assoc, xor_shifted, xor_zero_l, xor_zero_r, xor_comm, xor_self}
use Rattle.model_base.specs.{after_bit, after_byte, after_eight_bits, all_ones, crc_of, polynomial, register_after}
use Rattle.redo_crc.specs.Parts.{HasTaken}
use Rattle.redo_crc.specs.Tables.{after_zeros}
use Rattle.redo_crc.specs.declared.tables.TheConstants.{TABLES}

-- each entry is what its byte does where zero bytes follow it
tables_are : TABLES ≡ map (λ zeros. map (λ byte. after_zeros zeros (after_eight_bits byte)) (range_with_len 0 256)) (range_with_len 0 8)
unfolding after_eight_bits after_bit after_zeros
tables_are = refl

pub table_at : (zeros byte : ℕ) (none : List ℕ) → zeros < 8 → byte < 256 → get_or (get_or TABLES zeros none) byte 0 ≡ after_zeros zeros (after_eight_bits byte)
table_at zeros byte none few small =
    let row : ℕ → List ℕ = λ zeros. map (λ byte. after_zeros zeros (after_eight_bits byte)) (range_with_len 0 256) in
    ap (λ (t : List (List ℕ)). get_or (get_or t zeros none) byte 0) tables_are
    ∙ ap (λ (r : List ℕ). get_or r byte 0) (get_or-map-range_with_len row 0 8 zeros zeros none few (omega arith))
    ∙ get_or-map-range_with_len (λ byte. after_zeros zeros (after_eight_bits byte)) 0 256 byte byte 0 small (omega arith)

-- bits above the lowest move down
after_bit-high : (high low : ℕ) → after_bit (bit_xor (2 * high) low) ≡ bit_xor high (after_bit low)
unfolding after_bit
after_bit-high high low =
    let half : bit_xor (2 * high) low / 2 ≡ bit_xor high (low / 2) = xor_shr (2 * high) low 1 ∙ ap (λ (h : ℕ). bit_xor h (low / 2)) (omega arith) in
    let bit : bit_xor (2 * high) low % 2 ≡ low % 2 =
    xor_mod (2 * high) low 1 ∙ ap (λ (h : ℕ). bit_xor h (low % 2)) (let even : 2 * high % 2 ≡ 0 = omega arith in even) ∙ xor_zero_l (low % 2) in
    rw (half, bit) (elim (eqb (low % 2) 1) as (λ v. cond v (bit_xor (bit_xor high (low / 2)) polynomial) (bit_xor high (low / 2)) ≡ bit_xor high (cond v (bit_xor (low / 2) polynomial) (low / 2))) [
      | true ↦ xor_assoc high (low / 2) polynomial
      | false ↦ refl
    ])

after_bit_down : (above high low : ℕ) → above ≡ 2 * high → after_bit (bit_xor above low) ≡ bit_xor high (after_bit low)
after_bit_down above high low twice = rw twice (after_bit-high high low)

after_eight_bits-high : (high low : ℕ) → after_eight_bits (bit_xor (256 * high) low) ≡ bit_xor high (after_eight_bits low)
unfolding after_eight_bits
after_eight_bits-high high low =
    let one = after_bit low in
    let two = after_bit one in
    let three = after_bit two in
    let four = after_bit three in
    let five = after_bit four in
    let six = after_bit five in
    let seven = after_bit six in
    rw (
      after_bit_down (256 * high) (128 * high) low (omega arith),
      after_bit_down (128 * high) (64 * high) one (omega arith),
      after_bit_down (64 * high) (32 * high) two (omega arith),
      after_bit_down (32 * high) (16 * high) three (omega arith),
      after_bit_down (16 * high) (8 * high) four (omega arith),
      after_bit_down (8 * high) (4 * high) five (omega arith),
      after_bit_down (4 * high) (2 * high) six (omega arith),
      after_bit_down (2 * high) high seven (omega arith),
    ) refl

-- ---- one bit, and eight, do their part to each of two registers apart

added : (p q high low : ℕ) → p < 2 → q < 2
    → cond (eqb (bit_xor p q) 1) (bit_xor (bit_xor high low) polynomial) (bit_xor high low)
    ≡ bit_xor (cond (eqb p 1) (bit_xor high polynomial) high) (cond (eqb q 1) (bit_xor low polynomial) low)
added zero zero high low p q = refl
added zero (suc zero) high low p q = xor_assoc high low polynomial
added (suc zero) zero high low p q =
    xor_assoc high low polynomial ∙ ap (bit_xor high) (xor_comm low polynomial) ∙ sym (xor_assoc high polynomial low)
added (suc zero) (suc zero) high low p q =
    sym (
    xor_assoc high polynomial (bit_xor low polynomial)
    ∙ ap (bit_xor high) (xor_comm polynomial (bit_xor low polynomial) ∙ xor_assoc low polynomial polynomial ∙ ap (bit_xor low) (xor_self polynomial) ∙ xor_zero_r low)
    )
added (suc (suc p)) q high low small few = absurd (omega arith)
added zero (suc (suc q)) high low small few = absurd (omega arith)
added (suc zero) (suc (suc q)) high low small few = absurd (omega arith)

after_bit-xor : (high low : ℕ) → after_bit (bit_xor high low) ≡ bit_xor (after_bit high) (after_bit low)
unfolding after_bit
after_bit-xor high low =
    let half : bit_xor high low / 2 ≡ bit_xor (high / 2) (low / 2) = xor_shr high low 1 in
    let bit : bit_xor high low % 2 ≡ bit_xor (high % 2) (low % 2) = xor_mod high low 1 in
    rw (half, bit) (added (high % 2) (low % 2) (high / 2) (low / 2) (omega arith) (omega arith))

after_eight_bits-xor : (high low : ℕ) → after_eight_bits (bit_xor high low) ≡ bit_xor (after_eight_bits high) (after_eight_bits low)
unfolding after_eight_bits
after_eight_bits-xor high low =
    let h1 = after_bit high in let l1 = after_bit low in
    let h2 = after_bit h1 in let l2 = after_bit l1 in
    let h3 = after_bit h2 in let l3 = after_bit l2 in
    let h4 = after_bit h3 in let l4 = after_bit l3 in
    let h5 = after_bit h4 in let l5 = after_bit l4 in
    let h6 = after_bit h5 in let l6 = after_bit l5 in
    let h7 = after_bit h6 in let l7 = after_bit l6 in
    rw (after_bit-xor high low, after_bit-xor h1 l1, after_bit-xor h2 l2, after_bit-xor h3 l3, after_bit-xor h4 l4, after_bit-xor h5 l5, after_bit-xor h6 l6, after_bit-xor h7 l7) refl

-- ---- a byte

-- the low byte of the register goes through the table, and the high bytes only move down
after_byte-parts : (register byte : ℕ) → byte < 256 → after_byte register byte ≡ bit_xor (after_eight_bits (bit_xor (register % 256) byte)) (register / 256)
unfolding after_byte
after_byte-parts register byte small =
    let mixed = bit_xor register byte in
    let low = mixed % 256 in
    let high = mixed / 256 in
    let low_is : low ≡ bit_xor (register % 256) byte = xor_mod register byte 8 ∙ ap (bit_xor (register % 256)) (let same : byte % 256 ≡ byte = omega arith in same) in
    let down : high ≡ register / 256 =
    xor_shr register byte 8 ∙ ap (bit_xor (register / 256)) (let none : byte / 256 ≡ 0 = omega arith in none) ∙ xor_zero_r (register / 256) in
    let parts : bit_xor (256 * high) low ≡ mixed =
    ap (λ (h : ℕ). bit_xor h low) (let turned : 256 * high ≡ high * 2 ^ 8 = omega arith in turned) ∙ xor_shifted high 8 low (omega arith) ∙ omega arith in
    ap after_eight_bits (sym parts) ∙ after_eight_bits-high high low ∙ xor_comm high (after_eight_bits low)
    ∙ ap (bit_xor (after_eight_bits low)) down ∙ ap (λ (n : ℕ). bit_xor (after_eight_bits n) (register / 256)) low_is

-- the table's step
pub by_table : (register byte : ℕ) (none : List ℕ) → byte < 256
    → bit_xor (get_or (get_or TABLES 0 none) (bit_and (bit_xor register byte) 255) 0) (register / 256) ≡ after_byte register byte
unfolding after_zeros
by_table register byte none small =
    let mixed = bit_xor register byte in
    let mask : bit_and mixed 255 ≡ mixed % 256 = and_mask mixed 8 in
    let low_is : mixed % 256 ≡ bit_xor (register % 256) byte = xor_mod register byte 8 ∙ ap (bit_xor (register % 256)) (let same : byte % 256 ≡ byte = omega arith in same) in
    rw (mask, table_at 0 (mixed % 256) none (omega arith) (omega arith), low_is) (sym (after_byte-parts register byte small))

-- ---- several bytes

-- what a register has goes through the bytes apart from what is added to it
after_byte-xor : (done register byte : ℕ) → after_byte (bit_xor done register) byte ≡ bit_xor (after_eight_bits done) (after_byte register byte)
unfolding after_byte
after_byte-xor done register byte = ap after_eight_bits (xor_assoc done register byte) ∙ after_eight_bits-xor done (bit_xor register byte)

after_zeros-first : (n register : ℕ) → after_zeros n (after_eight_bits register) ≡ after_zeros (suc n) register
unfolding after_zeros
after_zeros-first zero register = refl
after_zeros-first (suc n) register = ap after_eight_bits (after_zeros-first n register)

register_after-xor : (bytes : List ℕ) (done register : ℕ)
    → register_after (bit_xor done register) bytes ≡ bit_xor (after_zeros (length bytes) done) (register_after register bytes)
unfolding register_after after_zeros
register_after-xor [] done register = refl
register_after-xor (byte ∷ bytes) done register =
    ap (λ (r : ℕ). register_after r bytes) (after_byte-xor done register byte)
    ∙ register_after-xor bytes (after_eight_bits done) (after_byte register byte)
    ∙ ap (λ (r : ℕ). bit_xor r (register_after (after_byte register byte) bytes)) (after_zeros-first (length bytes) done)

-- the first byte's part, and that of the bytes after it
register_after-first : (register byte : ℕ) (bytes : List ℕ) → byte < 256
    → register_after register (byte ∷ bytes) ≡ bit_xor (after_zeros (length bytes) (after_eight_bits (bit_xor (register % 256) byte))) (register_after (register / 256) bytes)
unfolding register_after
register_after-first register byte bytes small =
    ap (λ (r : ℕ). register_after r bytes) (after_byte-parts register byte small)
    ∙ register_after-xor bytes (after_eight_bits (bit_xor (register % 256) byte)) (register / 256)

regrouped : (a b c d e f g h : ℕ) → bit_xor a (bit_xor b (bit_xor c (bit_xor d (bit_xor e (bit_xor f (bit_xor g (bit_xor h 0)))))))
    ≡ bit_xor (bit_xor (bit_xor (bit_xor (bit_xor (bit_xor (bit_xor a b) c) d) e) f) g) h
regrouped a b c d e f g h = simp (xor_assoc, xor_zero_r)

-- eight bytes by their places
pub eight-places : (bytes : List ℕ) → length bytes ≡ 8
    → bytes ≡ get_or bytes 0 0 ∷ get_or bytes 1 0 ∷ get_or bytes 2 0 ∷ get_or bytes 3 0 ∷ get_or bytes 4 0 ∷ get_or bytes 5 0 ∷ get_or bytes 6 0 ∷ get_or bytes 7 0 ∷ []
eight-places (a ∷ b ∷ c ∷ d ∷ e ∷ f ∷ g ∷ h ∷ []) long = refl
eight-places bytes long = absurd (omega (arith, long))

-- the parts of eight bytes, and of the register's own four
pub eight-parts : (r b0 b1 b2 b3 b4 b5 b6 b7 : ℕ) → r < 2 ^ 32 → b0 < 256 → b1 < 256 → b2 < 256 → b3 < 256 → b4 < 256 → b5 < 256 → b6 < 256 → b7 < 256
    → bit_xor (bit_xor (bit_xor (bit_xor (bit_xor (bit_xor (bit_xor
    (after_zeros 7 (after_eight_bits (bit_xor (r % 256) b0)))
    (after_zeros 6 (after_eight_bits (bit_xor (r / 256 % 256) b1))))
    (after_zeros 5 (after_eight_bits (bit_xor (r / 256 / 256 % 256) b2))))
    (after_zeros 4 (after_eight_bits (bit_xor (r / 256 / 256 / 256 % 256) b3))))
    (after_zeros 3 (after_eight_bits b4)))
    (after_zeros 2 (after_eight_bits b5)))
    (after_zeros 1 (after_eight_bits b6)))
    (after_zeros 0 (after_eight_bits b7))
    ≡ register_after r (b0 ∷ b1 ∷ b2 ∷ b3 ∷ b4 ∷ b5 ∷ b6 ∷ b7 ∷ [])
unfolding register_after
eight-parts r b0 b1 b2 b3 b4 b5 b6 b7 small s0 s1 s2 s3 s4 s5 s6 s7 =
    let gone : r / 256 / 256 / 256 / 256 ≡ 0 = omega arith in
    rw (
      register_after-first (r) b0 (b1 ∷ b2 ∷ b3 ∷ b4 ∷ b5 ∷ b6 ∷ b7 ∷ []) s0,
      register_after-first (r / 256) b1 (b2 ∷ b3 ∷ b4 ∷ b5 ∷ b6 ∷ b7 ∷ []) s1,
      register_after-first (r / 256 / 256) b2 (b3 ∷ b4 ∷ b5 ∷ b6 ∷ b7 ∷ []) s2,
      register_after-first (r / 256 / 256 / 256) b3 (b4 ∷ b5 ∷ b6 ∷ b7 ∷ []) s3,
      gone,
      register_after-first (0) b4 (b5 ∷ b6 ∷ b7 ∷ []) s4,
      xor_zero_l b4,
      register_after-first (0) b5 (b6 ∷ b7 ∷ []) s5,
      xor_zero_l b5,
      register_after-first (0) b6 (b7 ∷ []) s6,
      xor_zero_l b6,
      register_after-first (0) b7 ([]) s7,
      xor_zero_l b7,
    ) (sym (regrouped
    (after_zeros 7 (after_eight_bits (bit_xor (r % 256) b0)))
    (after_zeros 6 (after_eight_bits (bit_xor (r / 256 % 256) b1)))
    (after_zeros 5 (after_eight_bits (bit_xor (r / 256 / 256 % 256) b2)))
    (after_zeros 4 (after_eight_bits (bit_xor (r / 256 / 256 / 256 % 256) b3)))
    (after_zeros 3 (after_eight_bits b4))
    (after_zeros 2 (after_eight_bits b5))
    (after_zeros 1 (after_eight_bits b6))
    (after_zeros 0 (after_eight_bits b7))))

-- bytes in two parts
pub register_after-cut : (register k : ℕ) (bytes : List ℕ) → register_after (register_after register (take k bytes)) (drop k bytes) ≡ register_after register bytes
unfolding register_after
register_after-cut register k bytes =
    sym (fold-append after_byte register (take k bytes) (drop k bytes)) ∙ ap (fold after_byte register) (take-append-drop k bytes)

pub value-append : (a b : List ℕ) → crc_of (a ++ b) ≡ bit_xor (register_after (register_after all_ones a) b) all_ones
unfolding crc_of register_after
value-append a b = ap (λ (register : ℕ). bit_xor register all_ones) (fold-append after_byte all_ones a b)

-- a register that has taken one text, and then takes another, has taken both
pub taken_joined : (old new : ℕ) (text bytes : List ℕ) → HasTaken old text → new ≡ register_after old bytes → HasTaken new (text ++ bytes)
unfolding register_after
taken_joined old new text bytes taken is = is ∙ ap (λ (register : ℕ). fold after_byte register bytes) taken ∙ sym (fold-append after_byte all_ones text bytes)
