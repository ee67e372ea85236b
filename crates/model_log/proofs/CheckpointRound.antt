-- A checkpoint that was written is read back.
use Rattle.std.proofs.Common.{◌≡◌, ◌==◌, ◌&&◌, ◌≤◌, ◌<◌, ◌-◌, ◌%◌, ◌^◌, ℕ, List, [], ◌++◌, length, refl, sym, ap, subst, ◌∙◌, Bool, true, cond, nat_lt, nat_le, Some, None, le-leb, lt-ltb, arith}
use Rattle.std.specs.List.{All}
use Rattle.std.specs.Int.{bytes_high_first}
use Rattle.std.proofs.Math.Nat.{mod-le}
use Rattle.std.proofs.lemmas.Bool.{eq-eqb}
use Rattle.std.proofs.lemmas.List.Elements.{All-append}
use Rattle.byteorder.specs.Numbers.{big_number-reads_back}
use Rattle.model_base.specs.declared.limits.TheConstants.{START_LSN}
use Rattle.model_base.specs.{field, padded_to}
use Rattle.model_log.specs.Device.{place_in, round_of, place_of, checkpoint_text, is_checkpoint, read_checkpoint}
use Rattle.model_log.specs.Ring.{IsLayout}
use Rattle.model_log.specs.declared.layout.Layout.{Layout}
use Rattle.model_log.specs.declared.layout.TheConstants.{RING_SIZE}
use Rattle.model_log.specs.Block.{block_of, with_checksum, fits_checksum}
use Rattle.model_log.proofs.Checksums.{IsByte, bytes-bytes_high_first}
use Rattle.model_log.proofs.Checkpoints.{checkpoint_fields, checkpoint_text-from}
use Rattle.model_log.proofs.Sealed.{field-padded, length-padded, bytes-padded, fits_checksum-sealed}

length-fields : (number lsn offset : ℕ) → length (checkpoint_fields number lsn offset) ≡ 32
unfolding checkpoint_fields
length-fields number lsn offset = refl

number-fields : (number lsn offset : ℕ) → number < 2 ^ 64 → field 8 0 (checkpoint_fields number lsn offset) ≡ number
unfolding checkpoint_fields
number-fields number lsn offset small = big_number-reads_back 8 number [] small

lsn-fields : (number lsn offset : ℕ) → lsn < 2 ^ 64 → field 8 8 (checkpoint_fields number lsn offset) ≡ lsn
unfolding checkpoint_fields
lsn-fields number lsn offset small = big_number-reads_back 8 lsn [] small

offset-fields : (number lsn offset : ℕ) → offset < 2 ^ 64 → field 8 16 (checkpoint_fields number lsn offset) ≡ offset
unfolding checkpoint_fields
offset-fields number lsn offset small = big_number-reads_back 8 offset [] small

bytes-fields : (number lsn offset : ℕ) → All IsByte (checkpoint_fields number lsn offset)
unfolding checkpoint_fields
bytes-fields number lsn offset =
    let be8 : (n : ℕ) → All IsByte (bytes_high_first 8 n) = bytes-bytes_high_first 8 in
    let two : List ℕ = bytes_high_first 8 number ++ bytes_high_first 8 lsn in
    let three : List ℕ = two ++ bytes_high_first 8 offset in
    All-append IsByte three (bytes_high_first 8 RING_SIZE)
    (All-append IsByte two (bytes_high_first 8 offset)
    (All-append IsByte (bytes_high_first 8 number) (bytes_high_first 8 lsn) (be8 number) (be8 lsn)) (be8 offset)) (be8 RING_SIZE)

place_in-small : (layout : Layout) (lsn : ℕ) → layout.first < 2 ^ 32 → lsn < 2 ^ 60 → place_in layout lsn < 2 ^ 64
place_in-small layout lsn near small =
    let round = mod-le (block_of lsn - START_LSN) (round_of layout) in
    let below : block_of lsn ≤ lsn = omega arith in
    omega arith

-- the tests of a checkpoint, at numbers
passes : (layout : Layout) (sound : Bool) (number lsn offset which : ℕ) → sound ≡ true → which ≡ place_of number → lsn % 512 ≡ 0 → START_LSN ≤ lsn → lsn < 2 ^ 60 → offset ≡ place_in layout lsn
    → (sound && place_of number == which && lsn % 512 == 0 && nat_le START_LSN lsn && nat_lt lsn (2 ^ 60) && offset == place_in layout lsn) ≡ true
passes layout sound number lsn offset which is_sound place aligned low high fits =
    rw (is_sound, eq-eqb _ _ (sym place), eq-eqb _ _ aligned, le-leb _ _ low, lt-ltb _ _ high, eq-eqb _ _ fits) refl

found_when : (good : Bool) (found wanted : ℕ × ℕ) → good ≡ true → found ≡ wanted → cond good (Some found) None ≡ Some wanted
found_when good found wanted is_good same = rw is_good (ap (λ pair. Some pair) same)

same_pair : (a b c d : ℕ) → a ≡ c → b ≡ d → let pair : ℕ × ℕ = (a, b) in pair ≡ (c, d)
same_pair a b c d first second = rw (first, second) refl

-- the checkpoint that was written is read in its place
pub checkpoint-reads_back : (number lsn : ℕ) (layout : Layout) → IsLayout layout → number < 2 ^ 64 → START_LSN ≤ lsn → lsn < 2 ^ 60 → lsn % 512 ≡ 0
    → read_checkpoint (place_of number) layout (checkpoint_text number lsn layout) ≡ Some (number, lsn)
unfolding read_checkpoint
checkpoint-reads_back number lsn layout is_layout number_small low high aligned =
    let offset : ℕ = place_in layout lsn in
    let fields : List ℕ = checkpoint_fields number lsn offset in
    let long : length fields ≡ 32 = length-fields number lsn offset in
    let bytes : List ℕ = with_checksum (padded_to 508 fields) in
    let sound : fits_checksum bytes ≡ true
    = fits_checksum-sealed (padded_to 508 fields) (length-padded fields (omega arith)) (bytes-padded fields (bytes-fields number lsn offset)) in
    let number_is : field 8 0 bytes ≡ number = field-padded 8 0 fields (omega arith) (omega arith) ∙ number-fields number lsn offset number_small in
    let lsn_is : field 8 8 bytes ≡ lsn = field-padded 8 8 fields (omega arith) (omega arith) ∙ lsn-fields number lsn offset (omega arith) in
    let offset_is : field 8 16 bytes ≡ offset
    = field-padded 8 16 fields (omega arith) (omega arith) ∙ offset-fields number lsn offset (place_in-small layout lsn (omega (arith, is_layout.few_before)) high) in
    ap (read_checkpoint (place_of number) layout) (sym (checkpoint_text-from number lsn layout fields refl))
    ∙ found_when (is_checkpoint (place_of number) layout bytes) (field 8 0 bytes, field 8 8 bytes) (number, lsn)
    (passes layout (fits_checksum bytes) (field 8 0 bytes) (field 8 8 bytes) (field 8 16 bytes) (place_of number)
    sound (ap place_of (sym number_is)) (ap (λ n. n % 512) lsn_is ∙ aligned) (subst (λ (n : ℕ). START_LSN ≤ n) (sym lsn_is) low) (subst (λ (n : ℕ). n < 2 ^ 60) (sym lsn_is) high)
    (offset_is ∙ ap (place_in layout) (sym lsn_is)))
    (same_pair _ _ _ _ number_is lsn_is)
