-- What is read off bytes with their checksum after them.
use Rattle.std.proofs.Common.{◌≡◌, ◌≤◌, ◌+◌, ◌-◌, ℕ, List, [], ◌++◌, length, take, drop, replicate, length-append, sym, ap, ◌∙◌, true, take_at, drop_at, length-drop, arith}
use Rattle.std.specs.List.{All}
use Rattle.std.specs.Int.{bytes_high_first}
use Rattle.std.proofs.lemmas.Bool.{eq-eqb}
use Rattle.std.proofs.lemmas.List.{drop-append-le, take-append-le, length-replicate}
use Rattle.std.proofs.lemmas.List.Elements.{All-append, All-replicate}
use Rattle.byteorder.specs.Numbers.{big_from-append, big_number-reads_back}
use Rattle.byteorder.specs.Endian.{big_number}
use Rattle.model_base.specs.{crc_of, field, padded_to}
use Rattle.model_log.specs.Block.{with_checksum, fits_checksum}
use Rattle.model_log.proofs.Checksums.{IsByte, crc_of-lt}

-- a field of the front
pub field-append : (n at : ℕ) (front rest : List ℕ) → at + n ≤ length front → field n at (front ++ rest) ≡ field n at front
field-append n at front rest within =
    ap (big_number n) (drop-append-le at front rest (omega arith))
    ∙ big_from-append n (drop at front) rest (omega (arith, length-drop at front))

-- a field before the checksum
pub field-sealed : (n at : ℕ) (bytes : List ℕ) → at + n ≤ length bytes → field n at (with_checksum bytes) ≡ field n at bytes
unfolding with_checksum
field-sealed n at bytes within = field-append n at bytes (bytes_high_first 4 (crc_of bytes)) within

-- a part before the checksum
pub part-sealed : (n at : ℕ) (bytes : List ℕ) → at + n ≤ length bytes → take n (drop at (with_checksum bytes)) ≡ take n (drop at bytes)
unfolding with_checksum
part-sealed n at bytes within =
    let checksum : List ℕ = bytes_high_first 4 (crc_of bytes) in
    ap (take n) (drop-append-le at bytes checksum (omega arith))
    ∙ take-append-le n (drop at bytes) checksum (omega (arith, length-drop at bytes))

-- the checksum fits
pub fits_checksum-sealed : (bytes : List ℕ) → length bytes ≡ 508 → All IsByte bytes → fits_checksum (with_checksum bytes) ≡ true
unfolding with_checksum
fits_checksum-sealed bytes whole each =
    let checksum : List ℕ = bytes_high_first 4 (crc_of bytes) in
    let behind : field 4 508 (bytes ++ checksum) ≡ crc_of bytes
    = ap (big_number 4) (drop_at bytes checksum 508 whole) ∙ big_number-reads_back 4 (crc_of bytes) [] (crc_of-lt bytes each) in
    let front : crc_of bytes ≡ crc_of (take 508 (bytes ++ checksum)) = ap crc_of (sym (take_at bytes checksum 508 whole)) in
    eq-eqb (field 4 508 (bytes ++ checksum)) (crc_of (take 508 (bytes ++ checksum))) (behind ∙ front)

-- what is filled up with zeros
pub length-padded : (bytes : List ℕ) → length bytes ≤ 508 → length (padded_to 508 bytes) ≡ 508
length-padded bytes short = omega (arith, length-append bytes (replicate (508 - length bytes) 0), length-replicate {A = ℕ} (508 - length bytes) 0)

pub bytes-padded : (bytes : List ℕ) → All IsByte bytes → All IsByte (padded_to 508 bytes)
bytes-padded bytes each = All-append IsByte bytes (replicate (508 - length bytes) 0) each (All-replicate IsByte (508 - length bytes) 0 (omega arith))

-- a field of bytes that were filled up and have a checksum
pub field-padded : (n at : ℕ) (bytes : List ℕ) → at + n ≤ length bytes → length bytes ≤ 508 → field n at (with_checksum (padded_to 508 bytes)) ≡ field n at bytes
field-padded n at bytes within short =
    field-sealed n at (padded_to 508 bytes) (omega (arith, length-padded bytes short))
    ∙ field-append n at bytes (replicate (508 - length bytes) 0) within

-- the checksum has four bytes
pub length-sealed : (bytes : List ℕ) → length (with_checksum bytes) ≡ length bytes + 4
unfolding with_checksum
length-sealed bytes = length-append bytes (bytes_high_first 4 (crc_of bytes))
