-- A checksum of bytes is a number of 32 bits.
use Rattle.std.proofs.Common.{ℕ, suc, ◌/◌, ◌%◌, ◌^◌, ◌<◌, cond, eqb, true, false, bit_xor, List, [], ◌∷◌, get_or, arith}
use Rattle.std.proofs.lemmas.Nat.{xor_lt}
use Rattle.model_base.specs.{after_bit, after_byte, after_eight_bits, all_ones, crc_of, polynomial, register_after}

after_bit-lt : (register : ℕ) → register < 2 ^ 32 → after_bit register < 2 ^ 32
unfolding after_bit
after_bit-lt register small =
    let half : register / 2 < 2 ^ 32 = omega arith in
    elim (eqb (register % 2) 1) as (λ b. cond b (bit_xor (register / 2) polynomial) (register / 2) < 2 ^ 32) [
      | true ↦ xor_lt 32 (register / 2) polynomial half (omega arith)
      | false ↦ half
    ]

after_byte-lt : (register byte : ℕ) → register < 2 ^ 32 → byte < 256 → after_byte register byte < 2 ^ 32
unfolding after_byte after_eight_bits
after_byte-lt register byte small fits =
    let two = after_bit-lt _ (after_bit-lt _ (xor_lt 32 register byte small (omega arith))) in
    let four = after_bit-lt _ (after_bit-lt _ two) in
    let six = after_bit-lt _ (after_bit-lt _ four) in
    after_bit-lt _ (after_bit-lt _ six)

register_after-lt : (bytes : List ℕ) (register : ℕ) → register < 2 ^ 32 → ((i : ℕ) → get_or bytes i 0 < 256) → register_after register bytes < 2 ^ 32
unfolding register_after
register_after-lt [] register small fit = small
register_after-lt (byte ∷ bytes) register small fit =
    register_after-lt bytes (after_byte register byte) (after_byte-lt register byte small (fit 0)) (λ i. fit (suc i))

pub crc_of-lt : (bytes : List ℕ) → ((i : ℕ) → get_or bytes i 0 < 256) → crc_of bytes < 2 ^ 32
unfolding crc_of
crc_of-lt bytes fit =
    xor_lt 32 (register_after all_ones bytes) all_ones (register_after-lt bytes all_ones (omega arith) fit) (omega arith)
