-- Bytes of which nothing is read at an lsn: those whose checksum doesn't fit, zeros among them, and those of another block.
use Rattle.std.proofs.Common.{◌≡◌, ◌≢◌, ◌&&◌, ◌==◌, ◌≤◌, ◌<◌, ◌+◌, ◌%◌, ◌^◌, ℕ, Bool, true, false, cond, List, Some, None, refl, sym, ap, ◌∙◌, ⊎_elim, arith}
use Rattle.std.specs.Prelude.{nat_le, nat_lt}
use Rattle.std.proofs.lemmas.Bool.{cases_lt, cases_Bool}
use Rattle.std.proofs.lemmas.Bool.Decides.{nat_tests}
use Rattle.model_base.specs.{after_bit, after_byte, after_eight_bits, crc_of, field, register_after}
use Rattle.model_base.specs.declared.limits.TheConstants.{BLOCK_SIZE, START_LSN}
use Rattle.model_log.specs.{block_number, block_view, fits_checksum, fits_number, format_of, good_head, is_block_at, is_first, is_full, is_length, place_in, place_of, read_block, read_checkpoint, read_head, round_of, turn_of}
use Rattle.model_log.specs.declared.block.BlockView.{BlockView}
use Rattle.model_log.specs.declared.head.Head.TheVariants.{OtherFormat, Unformatted}
use Rattle.model_log.specs.declared.layout.Layout.{Layout}
use Rattle.model_log.proofs.Places.{HasBlocks}
use Rattle.model_store.specs.{if_full, if_tail, read_full, read_tail}
use Rattle.model_store.proofs.Taking.{from-full, from-tail}
use Rattle.model_parts.specs.Changes.{IsUnsealed}
use Rattle.model_parts.specs.FormattedDevices.{zero_block}

-- WHERE THE CHECKSUM DOESN'T FIT no block is read, no checkpoint and no header.

and-last : (a b c d : Bool) → d ≡ false → (a && b && c && d) ≡ false
and-last true true true true none = absurd cc
and-last true true true false none = refl
and-last true true false d none = refl
and-last true false c d none = refl
and-last false b c d none = refl

pub unsealed-unread : (lsn : ℕ) (bytes : List ℕ) → IsUnsealed bytes → read_block lsn bytes ≡ None
unfolding read_block is_block_at
unsealed-unread lsn bytes broken =
    ap (λ t. cond t (Some (block_view bytes)) None)
    (and-last (fits_number lsn bytes) (is_length (block_view bytes).length) (is_first (block_view bytes).length (block_view bytes).first) (fits_checksum bytes) broken)

pub unsealed-full : (lsn : ℕ) (bytes : List ℕ) → IsUnsealed bytes → read_full lsn bytes ≡ None
unsealed-full lsn bytes broken = ap if_full (unsealed-unread lsn bytes broken)

pub unsealed-tail : (lsn : ℕ) (bytes : List ℕ) → IsUnsealed bytes → read_tail lsn bytes ≡ None
unsealed-tail lsn bytes broken = ap (if_tail lsn) (unsealed-unread lsn bytes broken)

pub unsealed-checkpoint : (which : ℕ) (layout : Layout) (bytes : List ℕ) → IsUnsealed bytes → read_checkpoint which layout bytes ≡ None
unfolding read_checkpoint
unsealed-checkpoint which layout bytes broken =
    ap (λ t. cond t (Some (field 8 0 bytes, field 8 8 bytes)) None)
    (ap (λ t. t && place_of (field 8 0 bytes) == which
    && field 8 8 bytes % BLOCK_SIZE == 0 && nat_le START_LSN (field 8 8 bytes) && nat_lt (field 8 8 bytes) (2 ^ 60)
    && field 8 16 bytes == place_in layout (field 8 8 bytes)) broken)

pub unsealed-head : (bytes : List ℕ) → IsUnsealed bytes → read_head bytes ≡ Unformatted
unfolding read_head
unsealed-head bytes broken =
    ap (λ t. cond t (elim (format_of (field 4 0 bytes)) [ None ↦ OtherFormat (field 4 0 bytes) | Some format ↦ good_head format bytes ]) Unformatted) broken

-- so it is with zeros
pub zeros-unsealed : IsUnsealed zero_block
unfolding crc_of register_after after_byte after_eight_bits after_bit
zeros-unsealed = refl

-- BLOCKS OF ANOTHER NUMBER OR TURN.

and-none : (a b c d : Bool) → a ≡ false → (a && b && c && d) ≡ false
and-none true b c d is = absurd cc
and-none false b c d is = refl

and-first : (a b c d : Bool) → (a && b && c && d) ≡ true → a ≡ true
and-first true b c d is = refl
and-first false b c d is = absurd cc

other-number : (lsn : ℕ) (bytes : List ℕ) → field 4 0 bytes % 2 ^ 31 ≢ block_number lsn → read_block lsn bytes ≡ None
unfolding read_block is_block_at
other-number lsn bytes other =
    let fits : fits_number lsn bytes ≡ false = grind (arith, nat_tests) in
    ap (λ t. cond t (Some (block_view bytes)) None)
    (and-none (fits_number lsn bytes) (is_length (block_view bytes).length) (is_first (block_view bytes).length (block_view bytes).first) (fits_checksum bytes) fits)

when-some : (t : Bool) (view found : BlockView) → cond t (Some view) None ≡ Some found → (t ≡ true) × (view ≡ found)
when-some true view found is = (refl, cc)
when-some false view found is = absurd cc

-- a block that is read at an lsn has its number, and is what its fields say
record Reads (lsn : ℕ) (bytes : List ℕ) (view : BlockView) : Type 0 where
  number : field 4 0 bytes % 2 ^ 31 ≡ block_number lsn
  view_is : block_view bytes ≡ view

block-reads : (lsn : ℕ) (bytes : List ℕ) (view : BlockView) → read_block lsn bytes ≡ Some view → Reads lsn bytes view
unfolding read_block is_block_at
block-reads lsn bytes view is =
    let test = when-some (is_block_at lsn bytes) (block_view bytes) view is in
    let fits : fits_number lsn bytes ≡ true =
    and-first (fits_number lsn bytes) (is_length (block_view bytes).length) (is_first (block_view bytes).length (block_view bytes).first) (fits_checksum bytes) test.0 in
    record { number = grind (arith, nat_tests); view_is = test.1 }

-- in the next round of the log a block has another number
pub next-round : (layout : Layout) (b : ℕ) (bytes : List ℕ) → HasBlocks layout → field 4 0 bytes % 2 ^ 31 ≡ block_number b → read_block (b + round_of layout) bytes ≡ None
next-round layout b bytes blocks own =
    let some : 1 ≤ layout.blocks = blocks.some in
    let few : layout.blocks < 1073741824 = blocks.few in
    let apart : block_number b ≢ block_number (b + round_of layout) = λ same. omega arith in
    other-number (b + round_of layout) bytes (λ there. apart (sym own ∙ there))

pub round-unread : (layout : Layout) (b : ℕ) (bytes : List ℕ) (view : BlockView) → HasBlocks layout
    → read_block b bytes ≡ Some view → read_block (b + round_of layout) bytes ≡ None
round-unread layout b bytes view blocks is = next-round layout b bytes blocks (block-reads b bytes view is).number

pub round-unread_full : (layout : Layout) (b : ℕ) (bytes : List ℕ) (view : BlockView) → HasBlocks layout
    → read_full b bytes ≡ Some view → read_full (b + round_of layout) bytes ≡ None
round-unread_full layout b bytes view blocks is =
    ap if_full (round-unread layout b bytes view blocks (from-full (read_block b bytes) view is).0)

-- A TAIL BLOCK FITS AT ONE LSN: its number tells the lsn up to whole turns, and its turn stands beside it.

view-cases : (t : Bool) (view : BlockView) (lsn : ℕ) → view.ckpt ≢ turn_of lsn → if_tail lsn (cond t (Some view) None) ≡ None
view-cases false view lsn other = refl
view-cases true view lsn other =
    let test : (view.ckpt == turn_of lsn) ≡ false = grind (arith, nat_tests) in
    ⊎_elim (λ full. ap (λ t. cond t None (cond (view.ckpt == turn_of lsn) (Some view) None)) full)
    (λ part. ap (λ t. cond t None (cond (view.ckpt == turn_of lsn) (Some view) None)) part ∙ ap (λ t. cond t (Some view) None) test)
    (cases_Bool (is_full view))

other-turn : (lsn : ℕ) (bytes : List ℕ) → field 4 8 bytes ≢ turn_of lsn → read_tail lsn bytes ≡ None
unfolding read_block
other-turn lsn bytes other = view-cases (is_block_at lsn bytes) (block_view bytes) lsn other

eq-from : (a b : ℕ) → (a == b) ≡ true → a ≡ b
eq-from a b test = grind (arith, nat_tests)

pub tail-once : (b c : ℕ) (bytes : List ℕ) (view : BlockView) → b % 512 ≡ 0 → c % 512 ≡ 0 → b ≢ c → read_tail b bytes ≡ Some view → read_tail c bytes ≡ None
tail-once b c bytes view aligned other apart is =
    let from = from-tail b (read_block b bytes) view is in
    let reads : Reads b bytes view = block-reads b bytes view from.0 in
    let number : field 4 0 bytes % 2 ^ 31 ≡ block_number b = reads.number in
    let turn : field 4 8 bytes ≡ turn_of b = ap (λ (v : BlockView). v.ckpt) reads.view_is ∙ eq-from view.ckpt (turn_of b) from.2 in
    ⊎_elim (λ less. other-turn c bytes (λ same. absurd (omega arith)))
    (λ not_less. ⊎_elim (λ more. other-turn c bytes (λ same. absurd (omega arith)))
    (λ not_more. ap (if_tail c) (other-number c bytes (λ same.
    let turns : turn_of b ≡ turn_of c = omega arith in
    let numbers : block_number b ≡ block_number c = omega arith in
    apart (omega arith)))) (cases_lt (turn_of c) (turn_of b))) (cases_lt (turn_of b) (turn_of c))
