-- Fields of fixed size in a row of bytes, and a write into it.
use Rattle.std.specs.Prelude.{ℕ, ◌-◌, List, ◌++◌, length, drop, replicate, ◌+◌, take}
use Rattle.byteorder.specs.Endian.{big_number}

-- the number of n bytes that stands at this offset, its highest byte first
abbrev pub field : ℕ → ℕ → List ℕ → ℕ
field n at bytes = big_number n (drop at bytes)

-- the bytes, with zeros after them up to n bytes
abbrev pub padded_to : ℕ → List ℕ → List ℕ
padded_to n bytes = bytes ++ replicate (n - length bytes) 0

-- the old bytes with these in their place from the offset on
abbrev pub overwritten : ℕ → List ℕ → List ℕ → List ℕ
overwritten at bytes old = take at old ++ bytes ++ drop (at + length bytes) old
