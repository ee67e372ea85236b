-- A block that was written is read back.
use Rattle.std.proofs.Common.{◌≡◌, ◌&&◌, ◌≤◌, ◌<◌, ◌+◌, ◌-◌, ◌%◌, ◌^◌, ℕ, min, List, [], ◌++◌, length, take, drop, replicate, refl, ap, ◌∙◌, Bool, true, cond, IsTrue, Some, None, length-append, take_at, arith}
use Rattle.std.proofs.lemmas.List.{length-replicate}
use Rattle.std.specs.List.{All}
use Rattle.std.specs.Int.{bytes_high_first}
use Rattle.std.proofs.lemmas.Bool.{eq-eqb}
use Rattle.std.proofs.lemmas.Bool.Decides.{nat_tests}
use Rattle.std.proofs.lemmas.List.Elements.{All-append, All-replicate}
use Rattle.std.proofs.Math.Nat.{mod-eq_of_lt}
use Rattle.byteorder.specs.Numbers.{big_number-reads_back}
use Rattle.model_base.specs.{field, padded_to}
use Rattle.model_log.specs.Block.{block_number, with_checksum, length_of, block_text, block_view, fits_number, is_length, is_first, fits_checksum, is_block_at, read_block, data_of}
use Rattle.model_log.specs.declared.block.BlockView.{BlockView}
use Rattle.model_log.specs.declared.layout.TheConstants.{BLOCK_DATA}
use Rattle.model_log.proofs.Checksums.{IsByte, bytes-bytes_high_first}
use Rattle.model_log.proofs.Sealed.{field-sealed, part-sealed, fits_checksum-sealed, length-sealed}

-- a block's header, and then the rest of it up to the checksum
unfoldable headed : ℕ → ℕ → ℕ → ℕ → List ℕ → List ℕ
headed number count first ckpt rest =
    bytes_high_first 4 number ++ bytes_high_first 2 count ++ bytes_high_first 2 first ++ bytes_high_first 4 ckpt ++ rest

-- the data, and zeros up to the checksum
abbrev filled : List ℕ → List ℕ
filled content = content ++ replicate (BLOCK_DATA - length content) 0

length-headed : (number count first ckpt : ℕ) (rest : List ℕ) → length (headed number count first ckpt rest) ≡ 12 + length rest
unfolding headed
length-headed number count first ckpt rest = omega arith

drop-headed : (number count first ckpt : ℕ) (rest : List ℕ) → drop 12 (headed number count first ckpt rest) ≡ rest
unfolding headed
drop-headed number count first ckpt rest = refl

number-headed : (number count first ckpt : ℕ) (rest : List ℕ) → number < 2 ^ 32 → field 4 0 (headed number count first ckpt rest) ≡ number
unfolding headed
number-headed number count first ckpt rest small = big_number-reads_back 4 number [] small

count-headed : (number count first ckpt : ℕ) (rest : List ℕ) → count < 2 ^ 16 → field 2 4 (headed number count first ckpt rest) ≡ count
unfolding headed
count-headed number count first ckpt rest small = big_number-reads_back 2 count [] small

first-headed : (number count first ckpt : ℕ) (rest : List ℕ) → first < 2 ^ 16 → field 2 6 (headed number count first ckpt rest) ≡ first
unfolding headed
first-headed number count first ckpt rest small = big_number-reads_back 2 first [] small

ckpt-headed : (number count first ckpt : ℕ) (rest : List ℕ) → ckpt < 2 ^ 32 → field 4 8 (headed number count first ckpt rest) ≡ ckpt
unfolding headed
ckpt-headed number count first ckpt rest small = big_number-reads_back 4 ckpt [] small

headed-append : (number count first ckpt : ℕ) (rest more : List ℕ) → headed number count first ckpt rest ++ more ≡ headed number count first ckpt (rest ++ more)
unfolding headed
headed-append number count first ckpt rest more = refl

padded-headed : (number count first ckpt : ℕ) (content : List ℕ) → padded_to 508 (headed number count first ckpt content) ≡ headed number count first ckpt (filled content)
padded-headed number count first ckpt content =
    let front : List ℕ = headed number count first ckpt content in
    let room : 508 - length front ≡ BLOCK_DATA - length content = omega (arith, length-headed number count first ckpt content) in
    ap (λ n. front ++ replicate n 0) room ∙ headed-append number count first ckpt content (replicate (BLOCK_DATA - length content) 0)

block_text-headed : (lsn : ℕ) (content : List ℕ) (first ckpt : ℕ) → block_text lsn content first ckpt ≡ with_checksum (headed (block_number lsn) (length_of (length content)) first ckpt (filled content))
unfolding block_text headed
block_text-headed lsn content first ckpt =
    ap with_checksum (padded-headed (block_number lsn) (length_of (length content)) first ckpt content)

length-filled : (content : List ℕ) → length content ≤ BLOCK_DATA → length (filled content) ≡ BLOCK_DATA
length-filled content room =
    omega (arith, length-append content (replicate (BLOCK_DATA - length content) 0), length-replicate {A = ℕ} (BLOCK_DATA - length content) 0)

bytes-headed : (number count first ckpt : ℕ) (rest : List ℕ) → All IsByte rest → All IsByte (headed number count first ckpt rest)
unfolding headed
bytes-headed number count first ckpt rest each =
    let be4 : (n : ℕ) → All IsByte (bytes_high_first 4 n) = bytes-bytes_high_first 4 in
    let be2 : (n : ℕ) → All IsByte (bytes_high_first 2 n) = bytes-bytes_high_first 2 in
    All-append IsByte (bytes_high_first 4 number ++ bytes_high_first 2 count ++ bytes_high_first 2 first ++ bytes_high_first 4 ckpt) rest
    (All-append IsByte (bytes_high_first 4 number ++ bytes_high_first 2 count ++ bytes_high_first 2 first) (bytes_high_first 4 ckpt)
    (All-append IsByte (bytes_high_first 4 number ++ bytes_high_first 2 count) (bytes_high_first 2 first)
    (All-append IsByte (bytes_high_first 4 number) (bytes_high_first 2 count) (be4 number) (be2 count)) (be2 first)) (be4 ckpt))
    each

bytes-filled : (content : List ℕ) → All IsByte content → All IsByte (filled content)
bytes-filled content each =
    All-append IsByte content (replicate (BLOCK_DATA - length content) 0) each (All-replicate IsByte (BLOCK_DATA - length content) 0 (omega arith))

first-small : (length first : ℕ) → is_first length first ≡ true → first < 2 ^ 16
first-small length first good = grind (arith, nat_tests)

is_length-length_of : (count : ℕ) → count ≤ BLOCK_DATA → is_length (length_of count) ≡ true
is_length-length_of count room = grind (arith, nat_tests)

length_of-small : (count : ℕ) → count ≤ BLOCK_DATA → length_of count < 2 ^ 16
length_of-small count room = grind (arith, nat_tests)

-- the fields of a block, after which its checksum stands
record Reads (number count first ckpt : ℕ) (bytes : List ℕ) : Type 0 where
  reads_number : field 4 0 bytes ≡ number
  reads_count : field 2 4 bytes ≡ count
  reads_first : field 2 6 bytes ≡ first
  reads_ckpt : field 4 8 bytes ≡ ckpt
  checksum : fits_checksum bytes ≡ true

reads-sealed : (number count first ckpt : ℕ) (rest : List ℕ) → number < 2 ^ 32 → count < 2 ^ 16 → first < 2 ^ 16 → ckpt < 2 ^ 32
    → length rest ≡ BLOCK_DATA → All IsByte rest → Reads number count first ckpt (with_checksum (headed number count first ckpt rest))
reads-sealed number count first ckpt rest number_small count_small first_small ckpt_small whole each =
    let bytes : List ℕ = headed number count first ckpt rest in
    let long : length bytes ≡ 508 = omega (arith, length-headed number count first ckpt rest) in
    record {
      reads_number = field-sealed 4 0 bytes (omega arith) ∙ number-headed number count first ckpt rest number_small;
      reads_count = field-sealed 2 4 bytes (omega arith) ∙ count-headed number count first ckpt rest count_small;
      reads_first = field-sealed 2 6 bytes (omega arith) ∙ first-headed number count first ckpt rest first_small;
      reads_ckpt = field-sealed 4 8 bytes (omega arith) ∙ ckpt-headed number count first ckpt rest ckpt_small;
      checksum = fits_checksum-sealed bytes long (bytes-headed number count first ckpt rest each);
    }

all_four : (a b c d : Bool) → a ≡ true → b ≡ true → c ≡ true → d ≡ true → (a && b && c && d) ≡ true
all_four a b c d first second third fourth = rw (first, second, third, fourth) refl

view_when : (b : Bool) (view other : BlockView) → b ≡ true → view ≡ other → cond b (Some view) None ≡ Some other
view_when b view other good same = rw good (ap (λ v. Some v) same)

same_view : (length first ckpt l f c : ℕ) → length ≡ l → first ≡ f → ckpt ≡ c
    → let view : BlockView = record { length = length; first = first; ckpt = ckpt } in view ≡ record { length = l; first = f; ckpt = c }
same_view length first ckpt l f c same_length same_first same_ckpt = cc

read_block-from : (lsn count first ckpt : ℕ) (bytes : List ℕ) → Reads (block_number lsn) count first ckpt bytes → is_length count ≡ true → is_first count first ≡ true
    → read_block lsn bytes ≡ Some (record { length = count; first = first; ckpt = ckpt })
unfolding read_block is_block_at
read_block-from lsn count first ckpt bytes reads good_length good_first =
    let number_small : block_number lsn < 2 ^ 31 = omega arith in
    let number : fits_number lsn bytes ≡ true = eq-eqb _ _ (ap (λ n. n % 2 ^ 31) reads.reads_number ∙ mod-eq_of_lt number_small) in
    let length : is_length (field 2 4 bytes) ≡ true = ap is_length reads.reads_count ∙ good_length in
    let start : is_first (field 2 4 bytes) (field 2 6 bytes) ≡ true
    = ap (λ n. is_first n (field 2 6 bytes)) reads.reads_count ∙ ap (is_first count) reads.reads_first ∙ good_first in
    view_when (is_block_at lsn bytes) (block_view bytes) (record { length = count; first = first; ckpt = ckpt })
    (all_four (fits_number lsn bytes) (is_length (field 2 4 bytes)) (is_first (field 2 4 bytes) (field 2 6 bytes)) (fits_checksum bytes) number length start reads.checksum)
    (same_view (field 2 4 bytes) (field 2 6 bytes) (field 4 8 bytes) count first ckpt reads.reads_count reads.reads_first reads.reads_ckpt)

-- what a block that is written from some data has
pub view-reads_back : (lsn : ℕ) (content : List ℕ) (first ckpt : ℕ) → length content ≤ BLOCK_DATA → All IsByte content → ckpt < 2 ^ 32 → IsTrue (is_first (length_of (length content)) first)
    → read_block lsn (block_text lsn content first ckpt) ≡ Some (record { length = length_of (length content); first = first; ckpt = ckpt })
view-reads_back lsn content first ckpt room each ckpt_small good_first =
    let count : ℕ = length_of (length content) in
    ap (read_block lsn) (block_text-headed lsn content first ckpt)
    ∙ read_block-from lsn count first ckpt (with_checksum (headed (block_number lsn) count first ckpt (filled content)))
    (reads-sealed (block_number lsn) count first ckpt (filled content) (omega arith) (length_of-small (length content) room) (first-small count first good_first) ckpt_small (length-filled content room) (bytes-filled content each))
    (is_length-length_of (length content) room) good_first

data-length : (count : ℕ) → count ≤ BLOCK_DATA → min (length_of count) 508 - 12 ≡ count
data-length count room = grind (arith, nat_tests)

-- and its data
pub data-reads_back : (lsn : ℕ) (content : List ℕ) (first ckpt : ℕ) → length content ≤ BLOCK_DATA
    → data_of (record { length = length_of (length content); first = first; ckpt = ckpt }) (block_text lsn content first ckpt) ≡ content
data-reads_back lsn content first ckpt room =
    let count : ℕ = length_of (length content) in
    let bytes : List ℕ = headed (block_number lsn) count first ckpt (filled content) in
    let long : length bytes ≡ 508 = omega (arith, length-headed (block_number lsn) count first ckpt (filled content), length-filled content room) in
    ap (λ text. take (min count 508 - 12) (drop 12 text)) (block_text-headed lsn content first ckpt)
    ∙ ap (λ n. take n (drop 12 (with_checksum bytes))) (data-length (length content) room)
    ∙ part-sealed (length content) 12 bytes (omega arith)
    ∙ ap (take (length content)) (drop-headed (block_number lsn) count first ckpt (filled content))
    ∙ take_at content (replicate (BLOCK_DATA - length content) 0) (length content) refl

-- a block has 512 bytes
pub length-block_text : (lsn : ℕ) (content : List ℕ) (first ckpt : ℕ) → length content ≤ BLOCK_DATA → length (block_text lsn content first ckpt) ≡ 512
length-block_text lsn content first ckpt room =
    let bytes : List ℕ = headed (block_number lsn) (length_of (length content)) first ckpt (filled content) in
    ap length (block_text-headed lsn content first ckpt)
    ∙ omega (arith, length-sealed bytes, length-headed (block_number lsn) (length_of (length content)) first ckpt (filled content), length-filled content room)
