-- CRC-32C (Castagnoli), as RFC 3720 defines it and InnoDB computes it, bit by bit: no table and no trick.
use Rattle.std.specs.Prelude.{ℕ, ◌/◌, ◌%◌, ◌==◌, if◌then◌else◌, bit_xor, fold, List}

-- the reflected polynomial
abbrev pub polynomial : ℕ
polynomial = 0x82F6_3B78

-- One bit leaves a register of 32 bits at its low end; where it was a 1, the polynomial is added.
unfoldable pub after_bit : ℕ → ℕ
after_bit register = if register % 2 == 1 then bit_xor (register / 2) polynomial else register / 2

unfoldable pub after_eight_bits : ℕ → ℕ
after_eight_bits register =
    after_bit (after_bit (after_bit (after_bit (after_bit (after_bit (after_bit (after_bit register)))))))

-- the register after one more byte of the text
unfoldable pub after_byte : ℕ → ℕ → ℕ
after_byte register byte = after_eight_bits (bit_xor register byte)

-- all ones: what the register starts with, and what is added to it in the end
abbrev pub all_ones : ℕ
all_ones = 0xFFFF_FFFF

-- the register after these bytes, from the one that is given
unfoldable pub register_after : ℕ → List ℕ → ℕ
register_after register bytes = fold after_byte register bytes

-- the checksum of these bytes
unfoldable pub crc_of : List ℕ → ℕ
crc_of bytes = bit_xor (register_after all_ones bytes) all_ones
