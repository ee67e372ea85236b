-- A file header that was written is read back.
use Rattle.std.proofs.Common.{◌≡◌, ◌==◌, ◌&&◌, ◌<◌, ◌^◌, ℕ, List, [], ◌++◌, length, refl, sym, ap, ◌∙◌, nat_lt, Bool, true, cond, Option, Some, None, arith}
use Rattle.std.specs.List.{All}
use Rattle.std.specs.Int.{bytes_high_first}
use Rattle.std.proofs.lemmas.Bool.{eq-eqb, ltb-true}
use Rattle.std.proofs.lemmas.List.Elements.{All-append, All-weaker}
use Rattle.std.proofs.lemmas.List.Sums.{AllPass-from_list_all}
use Rattle.byteorder.specs.Numbers.{big_number-reads_back}
use Rattle.model_base.proofs.ShapeLimits.{whole_sectors, is_within_limits_true, slots_within}
use Rattle.model_base.specs.declared.shape.Shape.{Shape}
use Rattle.model_base.specs.declared.limits.TheConstants.{START_LSN}
use Rattle.model_base.specs.{field, is_within_limits, IsWithinLimits, padded_to}
use Rattle.model_log.specs.Block.{with_checksum, fits_checksum}
use Rattle.model_log.specs.Device.{format_of, has_sizes_of, shape_of, read_head}
use Rattle.model_log.specs.HeadText.{creator, format_number, head_text}
use Rattle.model_log.specs.declared.head.Format.{Format}
use Rattle.model_log.specs.declared.head.Format.TheVariants.{One, Two, Three}
use Rattle.model_log.specs.declared.head.Head.{Head}
use Rattle.model_log.specs.declared.head.Head.TheVariants.{Good, OtherFormat, Unformatted}
use Rattle.model_log.proofs.Checksums.{IsByte, bytes-bytes_high_first}
use Rattle.model_log.proofs.Heads.{head_fields, head_text-from}
use Rattle.model_log.proofs.Sealed.{field-padded, length-padded, bytes-padded, fits_checksum-sealed}

length-head_fields : (format : Format) (shape : Shape) → length (head_fields format shape) ≡ 68
unfolding head_fields
length-head_fields format shape = refl

format-head_fields : (format : Format) (shape : Shape) → field 4 0 (head_fields format shape) ≡ format_number format
unfolding head_fields
format-head_fields One shape = refl
format-head_fields Two shape = refl
format-head_fields Three shape = refl

start-head_fields : (format : Format) (shape : Shape) → field 8 8 (head_fields format shape) ≡ START_LSN
unfolding head_fields
start-head_fields format shape = refl

page_size-head_fields : (format : Format) (shape : Shape) → shape.page_size < 2 ^ 32 → field 4 48 (head_fields format shape) ≡ shape.page_size
unfolding head_fields
page_size-head_fields format shape small = big_number-reads_back 4 shape.page_size [] small

pages-head_fields : (format : Format) (shape : Shape) → shape.pages < 2 ^ 32 → field 4 52 (head_fields format shape) ≡ shape.pages
unfolding head_fields
pages-head_fields format shape small = big_number-reads_back 4 shape.pages [] small

space-head_fields : (format : Format) (shape : Shape) → shape.space < 2 ^ 32 → field 4 56 (head_fields format shape) ≡ shape.space
unfolding head_fields
space-head_fields format shape small = big_number-reads_back 4 shape.space [] small

log_blocks-head_fields : (format : Format) (shape : Shape) → shape.log_blocks < 2 ^ 32 → field 4 60 (head_fields format shape) ≡ shape.log_blocks
unfolding head_fields
log_blocks-head_fields format shape small = big_number-reads_back 4 shape.log_blocks [] small

slots-head_fields : (format : Format) (shape : Shape) → shape.slots < 2 ^ 32 → field 4 64 (head_fields format shape) ≡ shape.slots
unfolding head_fields
slots-head_fields format shape small = big_number-reads_back 4 shape.slots [] small

bytes-creator : All IsByte creator
bytes-creator = All-weaker (λ byte. nat_lt byte 256 ≡ true) IsByte (λ byte small. ltb-true byte 256 small) creator (AllPass-from_list_all (λ byte. nat_lt byte 256) creator refl)

both : (front back : List ℕ) → All IsByte front → All IsByte back → All IsByte (front ++ back)
both front back = All-append IsByte front back

bytes-head_fields : (format : Format) (shape : Shape) → All IsByte (head_fields format shape)
unfolding head_fields
bytes-head_fields format shape =
    let be4 : (n : ℕ) → All IsByte (bytes_high_first 4 n) = bytes-bytes_high_first 4 in
    let be8 : (n : ℕ) → All IsByte (bytes_high_first 8 n) = bytes-bytes_high_first 8 in
    let number : ℕ = format_number format in
    let front : List ℕ = bytes_high_first 4 number ++ bytes_high_first 4 0 in
    let start : List ℕ = front ++ bytes_high_first 8 START_LSN in
    let made : List ℕ = start ++ creator in
    let size : List ℕ = made ++ bytes_high_first 4 shape.page_size in
    let pages : List ℕ = size ++ bytes_high_first 4 shape.pages in
    let space : List ℕ = pages ++ bytes_high_first 4 shape.space in
    let blocks : List ℕ = space ++ bytes_high_first 4 shape.log_blocks in
    both blocks (bytes_high_first 4 shape.slots)
    (both space (bytes_high_first 4 shape.log_blocks)
    (both pages (bytes_high_first 4 shape.space)
    (both size (bytes_high_first 4 shape.pages)
    (both made (bytes_high_first 4 shape.page_size)
    (both start creator
    (both front (bytes_high_first 8 START_LSN)
    (both (bytes_high_first 4 number) (bytes_high_first 4 0) (be4 number) (be4 0)) (be8 START_LSN)) bytes-creator)
    (be4 shape.page_size)) (be4 shape.pages)) (be4 shape.space)) (be4 shape.log_blocks)) (be4 shape.slots)

same_shape : (page_size pages space log_blocks slots : ℕ) (shape : Shape) → page_size ≡ shape.page_size → pages ≡ shape.pages → space ≡ shape.space → log_blocks ≡ shape.log_blocks → slots ≡ shape.slots
    → let read : Shape = record { page_size = page_size; pages = pages; space = space; log_blocks = log_blocks; slots = slots } in read ≡ shape
same_shape page_size pages space log_blocks slots shape a b c d e = rw (a, b, c, d, e) refl

good_when : (sound start_fits limits_fit : Bool) (sizes_fit : Format → Bool) (found : Option Format) (format : Format) (read shape : Shape) (other : Head) → sound ≡ true → found ≡ Some format → start_fits ≡ true → limits_fit ≡ true → sizes_fit format ≡ true → read ≡ shape
    → cond sound (elim found [ None ↦ other | Some named ↦ cond (start_fits && limits_fit && sizes_fit named) (Good named read) Unformatted ]) Unformatted ≡ Good format shape
good_when sound start_fits limits_fit sizes_fit found format read shape other is_sound is_found is_start is_limits is_sizes same =
    rw (is_sound, is_found, is_start, is_limits, is_sizes, same) refl

format-found : (format : Format) → format_of (format_number format) ≡ Some format
format-found One = refl
format-found Two = refl
format-found Three = refl

-- the header of a store is read as that
pub head-reads_back : (format : Format) (shape : Shape) → IsWithinLimits shape → has_sizes_of format shape ≡ true → read_head (head_text format shape) ≡ Good format shape
unfolding read_head
head-reads_back format shape within sizes =
    let fields : List ℕ = head_fields format shape in
    let long : length fields ≡ 68 = length-head_fields format shape in
    let bytes : List ℕ = with_checksum (padded_to 508 fields) in
    let sound : fits_checksum bytes ≡ true
    = fits_checksum-sealed (padded_to 508 fields) (length-padded fields (omega arith)) (bytes-padded fields (bytes-head_fields format shape)) in
    let named : field 4 0 bytes ≡ format_number format = field-padded 4 0 fields (omega arith) (omega arith) ∙ format-head_fields format shape in
    let start : field 8 8 bytes ≡ START_LSN = field-padded 8 8 fields (omega arith) (omega arith) ∙ start-head_fields format shape in
    let same : shape_of bytes ≡ shape
    = same_shape (field 4 48 bytes) (field 4 52 bytes) (field 4 56 bytes) (field 4 60 bytes) (field 4 64 bytes) shape
    (field-padded 4 48 fields (omega arith) (omega arith) ∙ page_size-head_fields format shape (omega (arith, (whole_sectors shape within).most)))
    (field-padded 4 52 fields (omega arith) (omega arith) ∙ pages-head_fields format shape (omega (arith, within.few_pages)))
    (field-padded 4 56 fields (omega arith) (omega arith) ∙ space-head_fields format shape within.space)
    (field-padded 4 60 fields (omega arith) (omega arith) ∙ log_blocks-head_fields format shape (omega (arith, within.few_blocks)))
    (field-padded 4 64 fields (omega arith) (omega arith) ∙ slots-head_fields format shape (omega (arith, (slots_within shape within).few))) in
    ap read_head (sym (head_text-from format shape fields refl))
    ∙ good_when (fits_checksum bytes) (field 8 8 bytes == START_LSN) (is_within_limits (shape_of bytes)) (λ (f : Format). has_sizes_of f (shape_of bytes)) (format_of (field 4 0 bytes)) format (shape_of bytes) shape (OtherFormat (field 4 0 bytes))
    sound (ap format_of named ∙ format-found format) (eq-eqb _ _ start) (ap is_within_limits same ∙ is_within_limits_true shape within) (ap (has_sizes_of format) same ∙ sizes) same
