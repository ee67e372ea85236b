-- A checksum of bytes has 32 bits.
use Rattle.std.proofs.Common.{◌==◌, ◌<◌, ◌%◌, ◌/◌, ◌^◌, ℕ, zero, suc, Bool, true, false, cond, List, [], ◌∷◌, bit_xor, arith}
use Rattle.std.specs.List.{All}
use Rattle.std.specs.Int.{byte_at, bytes_high_first}
use Rattle.std.proofs.lemmas.List.Elements.{All-nil, All-cons, All-head, All-tail}
use Rattle.std.proofs.lemmas.Nat.{xor_of_32}
use Rattle.model_base.specs.{after_bit, after_byte, after_eight_bits, all_ones, crc_of, polynomial, register_after}

-- what each number of a list that holds bytes is
abbrev pub IsByte : ℕ → Type 0
IsByte byte = byte < 256

cond-lt : (b : Bool) (m n k : ℕ) → m < k → n < k → cond b m n < k
cond-lt true m n k first second = first
cond-lt false m n k first second = second

after_bit-lt : (register : ℕ) → register < 2 ^ 32 → after_bit register < 2 ^ 32
unfolding after_bit
after_bit-lt register small =
    cond-lt (register % 2 == 1) (bit_xor (register / 2) polynomial) (register / 2) (2 ^ 32) (xor_of_32 (register / 2) polynomial (omega arith) (omega arith)) (omega arith)

after_eight_bits-lt : (register : ℕ) → register < 2 ^ 32 → after_eight_bits register < 2 ^ 32
unfolding after_eight_bits
after_eight_bits-lt register small =
    after_bit-lt _ (after_bit-lt _ (after_bit-lt _ (after_bit-lt _ (after_bit-lt _ (after_bit-lt _ (after_bit-lt _ (after_bit-lt _ small)))))))

after_byte-lt : (register byte : ℕ) → register < 2 ^ 32 → byte < 256 → after_byte register byte < 2 ^ 32
unfolding after_byte
after_byte-lt register byte small is_byte =
    after_eight_bits-lt (bit_xor register byte) (xor_of_32 register byte small (omega arith))

register_after-lt : (bytes : List ℕ) (register : ℕ) → register < 2 ^ 32 → All IsByte bytes → register_after register bytes < 2 ^ 32
unfolding register_after
register_after-lt [] register small each = small
register_after-lt (byte ∷ bytes) register small each =
    register_after-lt bytes (after_byte register byte) (after_byte-lt register byte small (All-head IsByte byte bytes each)) (All-tail IsByte byte bytes each)

pub crc_of-lt : (bytes : List ℕ) → All IsByte bytes → crc_of bytes < 2 ^ 32
unfolding crc_of
crc_of-lt bytes each =
    xor_of_32 (register_after all_ones bytes) all_ones (register_after-lt bytes all_ones (omega arith) each) (omega arith)

byte_at-lt : (i n : ℕ) → byte_at i n < 256
byte_at-lt zero n = omega arith
byte_at-lt (suc i) n = omega arith

-- the bytes of a number are bytes
pub bytes-bytes_high_first : (k n : ℕ) → All IsByte (bytes_high_first k n)
bytes-bytes_high_first zero n = All-nil IsByte
bytes-bytes_high_first (suc k) n = All-cons IsByte (byte_at k n) (bytes_high_first k n) (byte_at-lt k n) (bytes-bytes_high_first k n)
