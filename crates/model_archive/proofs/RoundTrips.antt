-- A head and a mark that were written are read back.
use Rattle.std.proofs.Common.{◌≡◌, ◌==◌, ◌&&◌, ◌≤◌, ◌<◌, ◌-◌, ◌%◌, ◌^◌, ◌+◌, ℕ, List, [], ◌++◌, length, refl, sym, ap, ◌∙◌, Bool, true, false, cond, nat_lt, Option, Some, None, ⊎_elim, le-leb, lt-ltb, arith}
use Rattle.std.specs.List.{All}
use Rattle.std.specs.Int.{bytes_high_first}
use Rattle.std.proofs.lemmas.Bool.{eq-eqb, ltb-true, cases_Bool}
use Rattle.std.proofs.lemmas.Bool.Decides.{nat_tests}
use Rattle.std.proofs.lemmas.List.Elements.{All-append, All-weaker}
use Rattle.std.proofs.lemmas.List.Sums.{AllPass-from_list_all}
use Rattle.byteorder.specs.Numbers.{big_number-reads_back}
use Rattle.model_base.proofs.ShapeLimits.{is_within_limits_true, whole_sectors}
use Rattle.model_base.specs.{field, is_within_limits, IsWithinLimits, padded_to}
use Rattle.model_base.specs.declared.shape.Shape.{Shape}
use Rattle.model_log.specs.{with_checksum, fits_checksum, IsDataLsn, shape_of}
use Rattle.model_log.proofs.Checksums.{IsByte, bytes-bytes_high_first}
use Rattle.model_log.proofs.Sealed.{bytes-padded, field-padded, fits_checksum-sealed, length-padded, length-sealed}
use Rattle.model_archive.specs.Restore.{is_mark_lsn, is_run_start, mark_place, read_archive_head, read_mark}
use Rattle.model_archive.specs.Texts.{archive_creator, archive_head_text, IsRunStart, mark_text, other_mark_place}

-- THE MARK.

unfoldable pub mark_fields : ℕ → ℕ → List ℕ
mark_fields number lsn = bytes_high_first 8 number ++ bytes_high_first 8 lsn

pub mark_text-from : (number lsn : ℕ) (bytes : List ℕ) → bytes ≡ mark_fields number lsn
    → with_checksum (padded_to 508 bytes) ≡ mark_text number lsn
unfolding mark_text mark_fields
mark_text-from number lsn bytes e = ap (λ text. with_checksum (padded_to 508 text)) e

length-mark_fields : (number lsn : ℕ) → length (mark_fields number lsn) ≡ 16
unfolding mark_fields
length-mark_fields number lsn = refl

number-mark_fields : (number lsn : ℕ) → number < 2 ^ 64 → field 8 0 (mark_fields number lsn) ≡ number
unfolding mark_fields
number-mark_fields number lsn small = big_number-reads_back 8 number [] small

lsn-mark_fields : (number lsn : ℕ) → lsn < 2 ^ 64 → field 8 8 (mark_fields number lsn) ≡ lsn
unfolding mark_fields
lsn-mark_fields number lsn small = big_number-reads_back 8 lsn [] small

bytes-mark_fields : (number lsn : ℕ) → All IsByte (mark_fields number lsn)
unfolding mark_fields
bytes-mark_fields number lsn = All-append IsByte (bytes_high_first 8 number) (bytes_high_first 8 lsn)
    (bytes-bytes_high_first 8 number) (bytes-bytes_high_first 8 lsn)

mark-lsn : (s lsn : ℕ) → IsDataLsn lsn → s ≤ lsn → lsn < 2 ^ 60 → is_mark_lsn s lsn ≡ true
mark-lsn s lsn place from small = rw (le-leb _ _ place.0, lt-ltb _ _ place.1, le-leb _ _ from, lt-ltb _ _ small) refl

found_when : {X : Type 0} (a b c : Bool) (found wanted : X) → a ≡ true → b ≡ true → c ≡ true → found ≡ wanted
    → cond (a && b && c) (Some found) None ≡ Some wanted
found_when a b c found wanted one two three same = rw (one, two, three) (ap (λ x. Some x) same)

same_pair : (a b c d : ℕ) → a ≡ c → b ≡ d → let pair : ℕ × ℕ = (a, b) in pair ≡ (c, d)
same_pair a b c d first second = rw (first, second) refl

pub mark-reads_back : (s number lsn : ℕ) → number < 2 ^ 64 → IsDataLsn lsn → s ≤ lsn → lsn < 2 ^ 60
    → read_mark (mark_place number) s (mark_text number lsn) ≡ Some (number, lsn)
unfolding read_mark
mark-reads_back s number lsn number_small place from small =
    let fields : List ℕ = mark_fields number lsn in
    let long : length fields ≡ 16 = length-mark_fields number lsn in
    let bytes : List ℕ = with_checksum (padded_to 508 fields) in
    let sound : fits_checksum bytes ≡ true = fits_checksum-sealed (padded_to 508 fields)
    (length-padded fields (omega arith)) (bytes-padded fields (bytes-mark_fields number lsn)) in
    let number_is : field 8 0 bytes ≡ number = field-padded 8 0 fields (omega arith) (omega arith)
    ∙ number-mark_fields number lsn number_small in
    let lsn_is : field 8 8 bytes ≡ lsn = field-padded 8 8 fields (omega arith) (omega arith)
    ∙ lsn-mark_fields number lsn (omega arith) in
    ap (read_mark (mark_place number) s) (sym (mark_text-from number lsn fields refl))
    ∙ found_when (fits_checksum bytes) (mark_place (field 8 0 bytes) == mark_place number)
    (is_mark_lsn s (field 8 8 bytes)) (field 8 0 bytes, field 8 8 bytes) (number, lsn)
    sound (eq-eqb _ _ (ap mark_place number_is)) (ap (is_mark_lsn s) lsn_is ∙ mark-lsn s lsn place from small)
    (same_pair _ _ _ _ number_is lsn_is)

pub length-mark_text : (number lsn : ℕ) → length (mark_text number lsn) ≡ 512
length-mark_text number lsn =
    let fields : List ℕ = mark_fields number lsn in
    ap length (sym (mark_text-from number lsn fields refl)) ∙ length-sealed (padded_to 508 fields)
    ∙ omega (arith, length-padded fields (omega (arith, length-mark_fields number lsn)))

none_when : {X : Type 0} (a b c : Bool) (found : X) → a ≡ false → cond (a && b && c) (Some found) None ≡ None
none_when a b c found off = rw off refl

none_second : {X : Type 0} (a b c : Bool) (found : X) → b ≡ false → cond (a && b && c) (Some found) None ≡ None
none_second true b c found off = rw off refl
none_second false b c found off = refl

-- where the checksum doesn't fit
pub mark-broken : (which s : ℕ) (bytes : List ℕ) → fits_checksum bytes ≡ false → read_mark which s bytes ≡ None
unfolding read_mark
mark-broken which s bytes broken =
    none_when (fits_checksum bytes) (mark_place (field 8 0 bytes) == which) (is_mark_lsn s (field 8 8 bytes))
    (field 8 0 bytes, field 8 8 bytes) broken

-- where the number belongs into the other block
pub mark-elsewhere : (which s : ℕ) (bytes : List ℕ) → (mark_place (field 8 0 bytes) == which) ≡ false
    → read_mark which s bytes ≡ None
unfolding read_mark
mark-elsewhere which s bytes other =
    none_second (fits_checksum bytes) (mark_place (field 8 0 bytes) == which) (is_mark_lsn s (field 8 8 bytes))
    (field 8 0 bytes, field 8 8 bytes) other

-- the next number belongs into the other block
pub next-place : (number : ℕ) → mark_place (number + 1) ≡ other_mark_place number
next-place number =
    ⊎_elim (λ even. let odd : ((number + 1) % 2 == 0) ≡ false = grind (arith, nat_tests) in ap (λ t. cond t 1 2) odd
    ∙ sym (ap (λ t. 3 - cond t 1 2) even))
    (λ odd. let even : ((number + 1) % 2 == 0) ≡ true = grind (arith, nat_tests) in ap (λ t. cond t 1 2) even
    ∙ sym (ap (λ t. 3 - cond t 1 2) odd)) (cases_Bool (number % 2 == 0))

pub next-other : (number : ℕ) → other_mark_place (number + 1) ≡ mark_place number
next-other number =
    ⊎_elim (λ even. let place : mark_place number ≡ 1 = ap (λ t. cond t 1 2) even in omega (arith, next-place number))
    (λ odd. let place : mark_place number ≡ 2 = ap (λ t. cond t 1 2) odd in omega (arith, next-place number))
    (cases_Bool (number % 2 == 0))

-- THE HEAD.

unfoldable pub archive_head_fields : ℕ → Shape → List ℕ
archive_head_fields s shape =
    bytes_high_first 4 1 ++ bytes_high_first 4 0 ++ bytes_high_first 8 s ++ archive_creator
    ++ bytes_high_first 4 shape.page_size ++ bytes_high_first 4 shape.pages ++ bytes_high_first 4 shape.space
    ++ bytes_high_first 4 shape.log_blocks ++ bytes_high_first 4 shape.slots

pub archive_head_text-from : (s : ℕ) (shape : Shape) (bytes : List ℕ) → bytes ≡ archive_head_fields s shape
    → with_checksum (padded_to 508 bytes) ≡ archive_head_text s shape
unfolding archive_head_text archive_head_fields
archive_head_text-from s shape bytes e = ap (λ text. with_checksum (padded_to 508 text)) e

length-head_fields : (s : ℕ) (shape : Shape) → length (archive_head_fields s shape) ≡ 68
unfolding archive_head_fields
length-head_fields s shape = refl

format-head_fields : (s : ℕ) (shape : Shape) → field 4 0 (archive_head_fields s shape) ≡ 1
unfolding archive_head_fields
format-head_fields s shape = refl

start-head_fields : (s : ℕ) (shape : Shape) → s < 2 ^ 64 → field 8 8 (archive_head_fields s shape) ≡ s
unfolding archive_head_fields
start-head_fields s shape small = big_number-reads_back 8 s [] small

page_size-head_fields : (s : ℕ) (shape : Shape) → shape.page_size < 2 ^ 32
    → field 4 48 (archive_head_fields s shape) ≡ shape.page_size
unfolding archive_head_fields
page_size-head_fields s shape small = big_number-reads_back 4 shape.page_size [] small

pages-head_fields : (s : ℕ) (shape : Shape) → shape.pages < 2 ^ 32
    → field 4 52 (archive_head_fields s shape) ≡ shape.pages
unfolding archive_head_fields
pages-head_fields s shape small = big_number-reads_back 4 shape.pages [] small

space-head_fields : (s : ℕ) (shape : Shape) → shape.space < 2 ^ 32
    → field 4 56 (archive_head_fields s shape) ≡ shape.space
unfolding archive_head_fields
space-head_fields s shape small = big_number-reads_back 4 shape.space [] small

log_blocks-head_fields : (s : ℕ) (shape : Shape) → shape.log_blocks < 2 ^ 32
    → field 4 60 (archive_head_fields s shape) ≡ shape.log_blocks
unfolding archive_head_fields
log_blocks-head_fields s shape small = big_number-reads_back 4 shape.log_blocks [] small

slots-head_fields : (s : ℕ) (shape : Shape) → shape.slots < 2 ^ 32
    → field 4 64 (archive_head_fields s shape) ≡ shape.slots
unfolding archive_head_fields
slots-head_fields s shape small = big_number-reads_back 4 shape.slots [] small

bytes-creator : All IsByte archive_creator
bytes-creator = All-weaker (λ byte. nat_lt byte 256 ≡ true) IsByte
    (λ byte small. ltb-true byte 256 small) archive_creator
    (AllPass-from_list_all (λ byte. nat_lt byte 256) archive_creator refl)

both : (front back : List ℕ) → All IsByte front → All IsByte back → All IsByte (front ++ back)
both front back = All-append IsByte front back

bytes-head_fields : (s : ℕ) (shape : Shape) → All IsByte (archive_head_fields s shape)
unfolding archive_head_fields
bytes-head_fields s shape =
    let be4 : (n : ℕ) → All IsByte (bytes_high_first 4 n) = bytes-bytes_high_first 4 in
    let be8 : (n : ℕ) → All IsByte (bytes_high_first 8 n) = bytes-bytes_high_first 8 in
    let front : List ℕ = bytes_high_first 4 1 ++ bytes_high_first 4 0 in
    let start : List ℕ = front ++ bytes_high_first 8 s in
    let made : List ℕ = start ++ archive_creator in
    let size : List ℕ = made ++ bytes_high_first 4 shape.page_size in
    let pages : List ℕ = size ++ bytes_high_first 4 shape.pages in
    let space : List ℕ = pages ++ bytes_high_first 4 shape.space in
    let blocks : List ℕ = space ++ bytes_high_first 4 shape.log_blocks in
    both blocks (bytes_high_first 4 shape.slots)
    (both space (bytes_high_first 4 shape.log_blocks)
    (both pages (bytes_high_first 4 shape.space)
    (both size (bytes_high_first 4 shape.pages)
    (both made (bytes_high_first 4 shape.page_size)
    (both start archive_creator
    (both front (bytes_high_first 8 s)
    (both (bytes_high_first 4 1) (bytes_high_first 4 0) (be4 1) (be4 0)) (be8 s)) bytes-creator)
    (be4 shape.page_size)) (be4 shape.pages)) (be4 shape.space)) (be4 shape.log_blocks)) (be4 shape.slots)

same_shape : (page_size pages space log_blocks slots : ℕ) (shape : Shape) → page_size ≡ shape.page_size
    → pages ≡ shape.pages → space ≡ shape.space → log_blocks ≡ shape.log_blocks → slots ≡ shape.slots
    → let read : Shape = record {
      page_size = page_size;
      pages = pages;
      space = space;
      log_blocks = log_blocks;
      slots =
          slots;
    } in read ≡ shape
same_shape page_size pages space log_blocks slots shape a b c d e = rw (a, b, c, d, e) refl

found_head : (a b c d : Bool) (s start : ℕ) (read shape : Shape) → a ≡ true → b ≡ true → c ≡ true → d ≡ true → s ≡ start
    → read ≡ shape
    → (let found : Option (ℕ × Shape) = Some (s, read) in let wanted : Option (ℕ × Shape) = Some (start, shape) in
    cond (a && b && c && d) found None ≡ wanted)
found_head a b c d s start read shape one two three four first second = rw (one, two, three, four, first, second) refl

run-start : (s : ℕ) → IsRunStart s → is_run_start s ≡ true
run-start s is = rw (eq-eqb _ _ is.place, le-leb _ _ is.first, lt-ltb _ _ is.small) refl

pub head-reads_back : (s : ℕ) (shape : Shape) → IsWithinLimits shape → IsRunStart s
    → read_archive_head (archive_head_text s shape) ≡ Some (s, shape)
unfolding read_archive_head
head-reads_back s shape within start_is =
    let fields : List ℕ = archive_head_fields s shape in
    let long : length fields ≡ 68 = length-head_fields s shape in
    let bytes : List ℕ = with_checksum (padded_to 508 fields) in
    let sound : fits_checksum bytes ≡ true = fits_checksum-sealed (padded_to 508 fields)
    (length-padded fields (omega arith)) (bytes-padded fields (bytes-head_fields s shape)) in
    let named : field 4 0 bytes ≡ 1 = field-padded 4 0 fields (omega arith) (omega arith)
    ∙ format-head_fields s shape in
    let start : field 8 8 bytes ≡ s = field-padded 8 8 fields (omega arith) (omega arith)
    ∙ start-head_fields s shape (omega (arith, start_is.small)) in
    let same : shape_of bytes ≡ shape
    = same_shape (field 4 48 bytes) (field 4 52 bytes) (field 4 56 bytes) (field 4 60 bytes) (field 4 64 bytes) shape
    (field-padded 4 48 fields (omega arith) (omega arith)
    ∙ page_size-head_fields s shape (omega (arith, (whole_sectors shape within).most)))
    (field-padded 4 52 fields (omega arith) (omega arith) ∙ pages-head_fields s shape (omega (arith, within.few_pages)))
    (field-padded 4 56 fields (omega arith) (omega arith) ∙ space-head_fields s shape within.space)
    (field-padded 4 60 fields (omega arith) (omega arith)
    ∙ log_blocks-head_fields s shape (omega (arith, within.few_blocks)))
    (field-padded 4 64 fields (omega arith) (omega arith) ∙ slots-head_fields s shape (omega (arith, within.slots))) in
    ap read_archive_head (sym (archive_head_text-from s shape fields refl))
    ∙ found_head (fits_checksum bytes) (field 4 0 bytes == 1) (is_within_limits (shape_of bytes))
    (is_run_start (field 8 8 bytes)) (field 8 8 bytes) s (shape_of bytes) shape
    sound (eq-eqb _ _ named) (ap is_within_limits same ∙ is_within_limits_true shape within)
    (ap is_run_start start ∙ run-start s start_is) start same

pub length-head_text : (s : ℕ) (shape : Shape) → length (archive_head_text s shape) ≡ 512
length-head_text s shape =
    let fields : List ℕ = archive_head_fields s shape in
    ap length (sym (archive_head_text-from s shape fields refl)) ∙ length-sealed (padded_to 508 fields)
    ∙ omega (arith, length-padded fields (omega (arith, length-head_fields s shape)))
