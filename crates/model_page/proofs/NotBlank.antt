-- The bytes of a page are never all 0, whatever its fields are: the checksum of as many zero bytes isn't 0.
use Rattle.std.proofs.Common.{◌≡◌, ℕ, ◌+◌, ◌==◌, ◌%◌, ◌^◌, Bool, true, false, List, [], ◌∷◌, ◌++◌, length, inl, inr, replicate, refl, ap, sym, ◌∙◌, arith, length-append}
use Rattle.std.specs.Int.{bytes_high_first}
use Rattle.std.proofs.lemmas.Bool.{eqb-true, and_parts}
use Rattle.model_base.specs.{after_bit, after_byte, after_eight_bits, crc_of, frame_length, register_after}
unfoldable use Rattle.model_base.specs.{IsPageSize}
use Rattle.model_page.specs.Page.{page_text, middle_text, is_blank}

-- the checksum of the zero bytes of a page of 4,096 bytes, and of one of 16,384
small_zeros : crc_of (replicate 4084 0) ≡ 3527647855
unfolding crc_of register_after after_byte after_eight_bits after_bit
small_zeros = refl

large_zeros : crc_of (replicate 16372 0) ≡ 1711179693
unfolding crc_of register_after after_byte after_eight_bits after_bit
large_zeros = refl

-- each part of a blank text is blank
blank-front : (front back : List ℕ) → is_blank (front ++ back) ≡ true → is_blank front ≡ true
blank-front [] back blank = refl
blank-front (byte ∷ front) back blank =
    let both = and_parts (byte == 0) (is_blank (front ++ back)) blank in
    rw (both.0, blank-front front back both.1) refl

blank-back : (front back : List ℕ) → is_blank (front ++ back) ≡ true → is_blank back ≡ true
blank-back [] back blank = blank
blank-back (byte ∷ front) back blank = blank-back front back (and_parts (byte == 0) (is_blank (front ++ back)) blank).1

-- a blank text is zero bytes
zeros-from_blank : (text : List ℕ) → is_blank text ≡ true → text ≡ replicate (length text) 0
zeros-from_blank [] blank = refl
zeros-from_blank (byte ∷ text) blank =
    let both = and_parts (byte == 0) (is_blank text) blank in
    let first : byte ≡ 0 = eqb-true byte 0 both.0 in
    ap (λ b. b ∷ text) first ∙ ap (λ rest. 0 ∷ rest) (zeros-from_blank text both.1)

length-middle_text : (number space lsn : ℕ) (user : List ℕ) → length (middle_text number space lsn user) ≡ 34 + length user
length-middle_text number space lsn user = simp length-append (omega arith)

-- a page of a size has so many checked zero bytes, whose checksum is this, and has a byte other than 0
record HasSum (long : ℕ) : Type 0 where
  sum : ℕ
  zeros : crc_of (replicate (34 + long) 0) ≡ sum
  seen : is_blank (bytes_high_first 4 sum) ≡ false

module _ (number space lsn : ℕ) (user : List ℕ) (has : HasSum (length user)) where
  abbrev middle : List ℕ
  middle = middle_text number space lsn user

  -- where all is blank, the checksum is that of zero bytes
  middle-zeros : is_blank middle ≡ true → crc_of middle ≡ has.sum
  middle-zeros blank =
      ap crc_of (zeros-from_blank middle blank ∙ ap (λ n. replicate n 0) (length-middle_text number space lsn user)) ∙ has.zeros

  blank-parts : (b : Bool) → is_blank (page_text number space lsn user) ≡ b → b ≡ false
  unfolding page_text
  blank-parts false blank = refl
  blank-parts true blank =
      let sum : List ℕ = bytes_high_first 4 (crc_of middle) in
      let front : is_blank (sum ++ middle) ≡ true =
      blank-front (sum ++ middle) sum (blank-front (sum ++ middle ++ sum) (bytes_high_first 4 (lsn % 2 ^ 32)) blank) in
      let value : crc_of middle ≡ has.sum = middle-zeros (blank-back sum middle front) in
      let none : is_blank (bytes_high_first 4 has.sum) ≡ true = ap (λ n. is_blank (bytes_high_first 4 n)) (sym value) ∙ blank-front sum middle front in
      sym none ∙ has.seen

-- each of the two page sizes
sum_of : (n : ℕ) → IsPageSize (frame_length + n) → HasSum n
unfolding IsPageSize
sum_of n (inl size) =
    let long : 34 + n ≡ 4084 = omega (arith, size) in
    record { sum = 3527647855; zeros = ap (λ m. crc_of (replicate m 0)) long ∙ small_zeros; seen = refl }
sum_of n (inr size) =
    let long : 34 + n ≡ 16372 = omega (arith, size) in
    record { sum = 1711179693; zeros = ap (λ m. crc_of (replicate m 0)) long ∙ large_zeros; seen = refl }

-- so is a page text of each page size
pub is_blank-page_text_whole : (number space lsn : ℕ) (user : List ℕ) → IsPageSize (frame_length + length user)
    → is_blank (page_text number space lsn user) ≡ false
is_blank-page_text_whole number space lsn user size =
    blank-parts number space lsn user (sum_of (length user) size) (is_blank (page_text number space lsn user)) refl
