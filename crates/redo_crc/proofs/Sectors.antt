-- A sector that is filled up with zeros and gets its checksum.
use Rattle.std.proofs.Common.{◌≡◌, ◌≤◌, ◌+◌, ◌-◌, ℕ, List, ◌++◌, length, take, drop, replicate, length-take, length-drop, sym, ap, ◌∙◌, take_all, length-take-le, arith}
use Rattle.std.specs.Int.{bytes_high_first}
use Rattle.std.proofs.lemmas.Slice.{take-put_mid}
use Rattle.std.proofs.lemmas.List.{length-replicate}
use borrow.Rule.Slice.PartMut.{put_mid, mid_of}
use Rattle.model_base.specs.{crc_of, padded_to}
use Rattle.model_log.specs.{with_checksum}

-- what a part of the sector has is as long as it
length-mid_of : (a k : ℕ) (xs : List ℕ) → a + k ≤ length xs → length (mid_of a k xs) ≡ k
length-mid_of a k xs within = omega (arith, length-take k (drop a xs), length-drop a xs)

-- the zeros stand after the bytes
filled : (old zeros : List ℕ) (at : ℕ) → at ≤ 508 → length old ≡ 512 → zeros ≡ replicate (length (mid_of at (508 - at) old)) 0
    → take 508 (put_mid at (508 - at) old zeros) ≡ padded_to 508 (take at old)
filled old zeros at short long cleared =
    let room : length (mid_of at (508 - at) old) ≡ 508 - at = length-mid_of at (508 - at) old (omega arith) in
    let zeros_are : zeros ≡ replicate (508 - at) 0 = cleared ∙ ap (λ n. replicate n 0) room in
    let front : length (take at old) ≡ at = length-take-le at old (omega arith) in
    let count : length zeros ≡ 508 - at = ap length zeros_are ∙ length-replicate {A = ℕ} (508 - at) 0 in
    take-put_mid at (508 - at) old zeros 508 (omega arith) (omega arith)
    ∙ ap (λ rest. take at old ++ rest) zeros_are
    ∙ ap (λ n. take at old ++ replicate (508 - n) 0) (sym front)

-- and then the checksum
pub with_checksum-by_steps : (old zeros new bytes : List ℕ) (at checksum : ℕ) → at ≤ 508 → length old ≡ 512
    → zeros ≡ replicate (length (mid_of at (508 - at) old)) 0
    → checksum ≡ crc_of (take 508 (put_mid at (508 - at) old zeros)) → bytes ≡ bytes_high_first 4 checksum → length new ≡ 512
    → (end : ℕ) → end ≡ 508 + length bytes → take end new ≡ take 508 (put_mid at (508 - at) old zeros) ++ bytes → new ≡ with_checksum (padded_to 508 (take at old))
unfolding with_checksum
with_checksum-by_steps old zeros new bytes at checksum short long cleared summed spelled whole end ends put =
    let body : take 508 (put_mid at (508 - at) old zeros) ≡ padded_to 508 (take at old) = filled old zeros at short long cleared in
    let sum : checksum ≡ crc_of (padded_to 508 (take at old)) = summed ∙ ap crc_of body in
    let all : take end new ≡ new = take_all end new (omega (arith, ap length spelled)) in
    sym all ∙ put ∙ ap (λ front. front ++ bytes) body ∙ ap (λ end. padded_to 508 (take at old) ++ end) (spelled ∙ ap (bytes_high_first 4) sum)
