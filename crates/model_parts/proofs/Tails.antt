-- What is read off the sectors of a log, and which block the scan takes.
use Rattle.std.proofs.Common.{◌≡◌, ◌≢◌, ◌≤◌, ◌<◌, ◌+◌, ◌-◌, ◌%◌, ◌^◌, ◌==◌, ◌&&◌, ◌⊎◌, ℕ, inl, inr, Bool, true, false, cond, List, [], ◌++◌, length, Option, Some, None, refl, sym, ap, subst, ◌∙◌, ⊎_elim, length-append, arith}
use Rattle.std.specs.Prelude.{nat_lt}
use Rattle.std.specs.List.{All}
use Rattle.std.specs.Int.{bytes_high_first}
use Rattle.std.proofs.lemmas.Bool.{cases_lt, cases_Bool}
use Rattle.std.proofs.lemmas.Bool.Decides.{nat_tests}
use Rattle.byteorder.specs.Numbers.{big_number-reads_back}
use Rattle.model_base.specs.{field}
use Rattle.model_log.specs.declared.group.Whole.{Whole}
use Rattle.model_log.specs.declared.head.Format.TheVariants.{Two}
use Rattle.model_log.specs.declared.layout.Layout.{Layout}
use Rattle.model_log.specs.{block_number, block_of, block_text, block_view, content_at, first_at, fits_checksum, fits_number, groups_of, is_block_at, is_first, is_full, is_length, IsAtDataStart, IsBoundary, IsBoundaryBlock, IsByte, IsRunOf, length_at, length_of, read_block, round_of, spans_of, stream_of, turn_of}
use Rattle.model_log.specs.declared.block.BlockView.{BlockView}
use Rattle.model_log.specs.declared.layout.TheConstants.{BLOCK_DATA}
use Rattle.model_log.proofs.BoundaryLengths.{content-short}
use Rattle.model_log.proofs.BoundaryRound.{ReadsAs, reads-as}
use Rattle.model_log.proofs.Runs.{boundary-reached, data-start}
use Rattle.model_log.proofs.Sealed.{field-padded}
use Rattle.model_log.proofs.Places.{HasBlocks}
use Rattle.model_store.specs.{if_full, if_tail, in_place_or, longer, read_full, read_tail, Taken, taken_among, taken_from}
use Rattle.model_parts.specs.Held.{HoldsTail, IsBlockPlace, IsFullBlock, IsPartBlock, IsTail, IsTailBlock}
use Rattle.model_parts.proofs.LogRows.{IsTaken}

-- WHAT ISN'T READ.

and-last : (a b c d : Bool) → d ≡ false → (a && b && c && d) ≡ false
and-last true true true true none = absurd cc
and-last true true true false none = refl
and-last true true false d none = refl
and-last true false c d none = refl
and-last false b c d none = refl

-- where the checksum doesn't fit
pub broken-unread : (b : ℕ) (bytes : List ℕ) → fits_checksum bytes ≡ false → read_block b bytes ≡ None
unfolding read_block is_block_at
broken-unread b bytes broken =
    ap (λ t. cond t (Some (block_view bytes)) None)
    (and-last (fits_number b bytes) (is_length (block_view bytes).length) (is_first (block_view bytes).length (block_view bytes).first) (fits_checksum bytes) broken)

and-first : (a b c d : Bool) → a ≡ false → (a && b && c && d) ≡ false
and-first true b c d is = absurd cc
and-first false b c d is = refl

-- where the number isn't that of the lsn
pub other-number : (b : ℕ) (bytes : List ℕ) → field 4 0 bytes % 2 ^ 31 ≢ block_number b → read_block b bytes ≡ None
unfolding read_block is_block_at
other-number b bytes other =
    let fits : fits_number b bytes ≡ false = grind (arith, nat_tests) in
    ap (λ t. cond t (Some (block_view bytes)) None)
    (and-first (fits_number b bytes) (is_length (block_view bytes).length) (is_first (block_view bytes).length (block_view bytes).first) (fits_checksum bytes) fits)

-- the number of a block, and what it names as its checkpoint
number-of_block : (lsn : ℕ) (content : List ℕ) (first ckpt : ℕ) → length content ≤ BLOCK_DATA → field 4 0 (block_text lsn content first ckpt) ≡ block_number lsn
unfolding block_text
number-of_block lsn content first ckpt room =
    let head : List ℕ = bytes_high_first 4 (block_number lsn) ++ bytes_high_first 2 (length_of (length content)) ++ bytes_high_first 2 first ++ bytes_high_first 4 ckpt in
    let long : length (head ++ content) ≡ 12 + length content = length-append head content in
    field-padded 4 0 (head ++ content) (omega arith) (omega arith) ∙ big_number-reads_back 4 (block_number lsn) [] (omega arith)

-- so it isn't read one round of the log on
pub round-unread : (layout : Layout) (s : ℕ) (wholes : List Whole) (m b : ℕ) (bytes : List ℕ) → HasBlocks layout → IsBoundaryBlock s wholes m b bytes
    → read_block (b + round_of layout) bytes ≡ None
round-unread layout s wholes m b bytes blocks block =
    let here : field 4 0 bytes ≡ block_number b = ap (field 4 0) block.block ∙ number-of_block b (content_at s (stream_of (groups_of wholes)) m b) (first_at s (spans_of wholes) b) block.ckpt (content-short s (stream_of (groups_of wholes)) m b block.aligned) in
    let some : 1 ≤ layout.blocks = blocks.some in
    let few : layout.blocks < 1073741824 = blocks.few in
    other-number (b + round_of layout) bytes (λ same. absurd (omega arith))

pub ckpt-of_block : (lsn : ℕ) (content : List ℕ) (first ckpt : ℕ) → length content ≤ BLOCK_DATA → ckpt < 2 ^ 32
    → field 4 8 (block_text lsn content first ckpt) ≡ ckpt
unfolding block_text
ckpt-of_block lsn content first ckpt room small =
    let head : List ℕ = bytes_high_first 4 (block_number lsn) ++ bytes_high_first 2 (length_of (length content)) ++ bytes_high_first 2 first ++ bytes_high_first 4 ckpt in
    let long : length (head ++ content) ≡ 12 + length content = length-append head content in
    field-padded 4 8 (head ++ content) (omega arith) (omega arith) ∙ big_number-reads_back 4 ckpt [] small

view-cases : (t : Bool) (view : BlockView) (b : ℕ) → view.ckpt ≢ turn_of b → if_tail b (cond t (Some view) None) ≡ None
view-cases false view b other = refl
view-cases true view b other =
    let test : (view.ckpt == turn_of b) ≡ false = grind (arith, nat_tests) in
    ⊎_elim (λ full. ap (λ t. cond t None (cond (view.ckpt == turn_of b) (Some view) None)) full)
    (λ part. ap (λ t. cond t None (cond (view.ckpt == turn_of b) (Some view) None)) part ∙ ap (λ t. cond t (Some view) None) test)
    (cases_Bool (is_full view))

-- where the turn isn't that of the lsn
pub other-turn : (b : ℕ) (bytes : List ℕ) → field 4 8 bytes ≢ turn_of b → read_tail b bytes ≡ None
unfolding read_block
other-turn b bytes other = view-cases (is_block_at b bytes) (block_view bytes) b other

-- A tail block fits at the lsn of its own block and nowhere else: the number tells the lsn up to whole turns of the
-- numbers, and the turn stands beside it.
tail-elsewhere : (s : ℕ) (wholes : List Whole) (mark b : ℕ) (bytes : List ℕ) → b % 512 ≡ 0 → IsTailBlock s wholes mark bytes → b ≢ block_of mark
    → read_tail b bytes ≡ None
tail-elsewhere s wholes mark b bytes aligned is apart =
    let block : IsBoundaryBlock s wholes mark (block_of mark) bytes = is.block in
    let content : List ℕ = content_at s (stream_of (groups_of wholes)) mark (block_of mark) in
    let first : ℕ = first_at s (spans_of wholes) (block_of mark) in
    let short : length content ≤ BLOCK_DATA = content-short s (stream_of (groups_of wholes)) mark (block_of mark) block.aligned in
    let number : field 4 0 bytes ≡ block_number (block_of mark) = ap (field 4 0) block.block ∙ number-of_block (block_of mark) content first block.ckpt short in
    let turn : field 4 8 bytes ≡ turn_of (block_of mark) = is.turn in
    ⊎_elim (λ less. other-turn b bytes (λ same. absurd (omega arith)))
    (λ not_less. ⊎_elim (λ more. other-turn b bytes (λ same. absurd (omega arith)))
    (λ not_more.
    let unread : read_block b bytes ≡ None = other-number b bytes (λ same.
    let turns : turn_of b ≡ turn_of (block_of mark) = omega arith in
    let numbers : block_number b ≡ block_number (block_of mark) = omega arith in
    apart (omega (arith, block.aligned))) in
    ap (if_tail b) unread) (cases_lt (turn_of (block_of mark)) (turn_of b))) (cases_lt (turn_of b) (turn_of (block_of mark)))

-- so a tail block that was written is one of the run
pub tail-is : (s : ℕ) (wholes : List Whole) (mark high from : ℕ) (bytes : List ℕ) → IsBoundary s (spans_of wholes) mark → mark ≤ high → block_of mark + 12 < mark
    → IsTailBlock s wholes mark bytes → IsTail s wholes high from bytes
tail-is s wholes mark high from bytes boundary below some is b aligned behind =
    ⊎_elim (λ less. inl (tail-elsewhere s wholes mark b bytes aligned is (λ same. absurd (omega arith))))
    (λ not_less. ⊎_elim (λ more. inl (tail-elsewhere s wholes mark b bytes aligned is (λ same. absurd (omega arith))))
    (λ not_more.
    let same : block_of mark ≡ b = omega arith in
    inr (record {
      mark = mark;
      boundary = boundary;
      up_to = below;
      some = omega arith;
      part = omega arith;
      block = subst (λ (c : ℕ). IsBoundaryBlock s wholes mark c bytes) same is.block;
    })) (cases_lt (block_of mark) b)) (cases_lt b (block_of mark))

-- nothing is read off bytes whose checksum doesn't fit
pub broken-tail : (s : ℕ) (wholes : List Whole) (high from : ℕ) (bytes : List ℕ) → fits_checksum bytes ≡ false → IsTail s wholes high from bytes
broken-tail s wholes high from bytes broken b aligned behind = inl (ap (if_tail b) (broken-unread b bytes broken))

pub broken-place : (b : ℕ) (bytes : List ℕ) → fits_checksum bytes ≡ false → read_full b bytes ≡ None
broken-place b bytes broken = ap if_full (broken-unread b bytes broken)

-- WHAT IS READ.

-- a run and its bytes
pub record IsRunWithBytes (s : ℕ) (wholes : List Whole) : Type 0 where
  pub starts : IsAtDataStart s
  pub run : IsRunOf s wholes
  pub bytes : All IsByte (stream_of (groups_of wholes))

record BlockReads (s : ℕ) (wholes : List Whole) (m b : ℕ) (bytes : List ℕ) : Type 0 where
  view : BlockView
  read : read_block b bytes ≡ Some view
  length_is : view.length ≡ length_at m b
  ckpt_is : view.ckpt ≡ field 4 8 bytes

some-view : (t : Bool) (x view : BlockView) → cond t (Some x) None ≡ Some view → x ≡ view
some-view true x view is = cc
some-view false x view is = absurd cc

pub view-is : (b : ℕ) (bytes : List ℕ) (view : BlockView) → read_block b bytes ≡ Some view → block_view bytes ≡ view
unfolding read_block
view-is b bytes view read = some-view (is_block_at b bytes) (block_view bytes) view read

block-reads : (s : ℕ) (wholes : List Whole) (m b : ℕ) (bytes : List ℕ) → IsRunWithBytes s wholes → IsBoundary s (spans_of wholes) m → b + 12 < m
    → IsBoundaryBlock s wholes m b bytes → BlockReads s wholes m b bytes
block-reads s wholes m b bytes run boundary some block =
    let reads : ReadsAs s wholes m b bytes = reads-as s wholes m b bytes run.starts run.run run.bytes boundary some block in
    let same : block_view bytes ≡ reads.view = view-is b bytes reads.view reads.read in
    record {
      view = reads.view;
      read = reads.read;
      length_is = reads.length_is;
      ckpt_is = ap (λ (view : BlockView). view.ckpt) (sym same);
    }

part-length : (m b : ℕ) → m < b + 524 → length_at m b ≡ m - b
part-length m b part = grind (arith, nat_tests)

full-length : (m b : ℕ) → b + 524 ≤ m → length_at m b ≡ 512
full-length m b full = grind (arith, nat_tests)

is-part : (view : BlockView) (n : ℕ) → view.length ≡ n → n < 512 → is_full view ≡ false
is-part view n long less = grind (arith, nat_tests)

is-whole : (view : BlockView) → view.length ≡ 512 → is_full view ≡ true
is-whole view long = grind (arith, nat_tests)

-- a full block that stands in place
full-read : (s : ℕ) (wholes : List Whole) (m b : ℕ) (bytes : List ℕ) → IsRunWithBytes s wholes → IsBoundary s (spans_of wholes) m → IsFullBlock s wholes m b bytes
    → (view : BlockView) × (read_full b bytes ≡ Some view) × (read_block b bytes ≡ Some view)
full-read s wholes m b bytes run boundary is =
    let reads : BlockReads s wholes m b bytes = block-reads s wholes m b bytes run boundary (omega (arith, is.full)) is.block in
    let whole : is_full reads.view ≡ true = is-whole reads.view (reads.length_is ∙ full-length m b is.full) in
    (reads.view, ap if_full reads.read ∙ ap (λ t. cond t (Some reads.view) None) whole, reads.read)

-- an incomplete block that is read in a tail block
record HasTail (s : ℕ) (wholes : List Whole) (high b : ℕ) (bytes : List ℕ) : Type 0 where
  view : BlockView
  tail : read_tail b bytes ≡ Some view
  whole : read_block b bytes ≡ Some view
  part : IsPartBlock s wholes high b bytes
  length_is : view.length ≡ part.mark - b

abbrev TailOr : ℕ → List Whole → ℕ → ℕ → List ℕ → Type 0
TailOr s wholes high b bytes = (read_tail b bytes ≡ None) ⊎ HasTail s wholes high b bytes

tail-test : (view : BlockView) (b : ℕ) → is_full view ≡ false → if_tail b (Some view) ≡ cond (view.ckpt == turn_of b) (Some view) None
tail-test view b part = ap (λ t. cond t None (cond (view.ckpt == turn_of b) (Some view) None)) part

tail-or : (s : ℕ) (wholes : List Whole) (high b : ℕ) (bytes : List ℕ) → IsRunWithBytes s wholes → b % 512 ≡ 0
    → (read_tail b bytes ≡ None) ⊎ IsPartBlock s wholes high b bytes → TailOr s wholes high b bytes
tail-or s wholes high b bytes run aligned (inl none) = inl none
tail-or s wholes high b bytes run aligned (inr part) =
    let after = boundary-reached s wholes part.mark (data-start s run.starts) run.run part.boundary in
    let reads : BlockReads s wholes part.mark b bytes = block-reads s wholes part.mark b bytes run part.boundary part.some part.block in
    let long : reads.view.length ≡ part.mark - b = reads.length_is ∙ part-length part.mark b part.part in
    let not_full : is_full reads.view ≡ false = is-part reads.view (part.mark - b) long (omega (arith, part.part, part.some, after.place, aligned)) in
    let is : read_tail b bytes ≡ cond (reads.view.ckpt == turn_of b) (Some reads.view) None = ap (if_tail b) reads.read ∙ tail-test reads.view b not_full in
    ⊎_elim (λ yes. inr (record {
      view = reads.view;
      tail = is ∙ ap (λ t. cond t (Some reads.view) None) yes;
      whole = reads.read;
      part = part;
      length_is = long;
    })) (λ no. inl (is ∙ ap (λ t. cond t (Some reads.view) None) no)) (cases_Bool (reads.view.ckpt == turn_of b))

-- the incomplete block of the mark is read in its tail block
tail-read : (s : ℕ) (wholes : List Whole) (mark : ℕ) (bytes : List ℕ) → IsRunWithBytes s wholes → IsBoundary s (spans_of wholes) mark → block_of mark + 12 < mark
    → IsTailBlock s wholes mark bytes → (view : BlockView) × (read_tail (block_of mark) bytes ≡ Some view) × (view.length ≡ mark - block_of mark)
tail-read s wholes mark bytes run boundary some is =
    let b : ℕ = block_of mark in
    let after = boundary-reached s wholes mark (data-start s run.starts) run.run boundary in
    let reads : BlockReads s wholes mark b bytes = block-reads s wholes mark b bytes run boundary some is.block in
    let long : reads.view.length ≡ mark - b = reads.length_is ∙ part-length mark b (omega arith) in
    let not_full : is_full reads.view ≡ false = is-part reads.view (mark - b) long (omega (arith, after.place)) in
    let named : (reads.view.ckpt == turn_of b) ≡ true = (let same : reads.view.ckpt ≡ turn_of b = reads.ckpt_is ∙ is.turn in grind (arith, nat_tests)) in
    (reads.view, ap (if_tail b) reads.read ∙ tail-test reads.view b not_full ∙ ap (λ t. cond t (Some reads.view) None) named, long)

-- THE LONGER ONE.

record Chosen (s : ℕ) (wholes : List Whole) (high b : ℕ) (one two : List ℕ) (found : Option Taken) : Type 0 where
  bytes : List ℕ
  has : HasTail s wholes high b bytes
  is : found ≡ taken_from bytes (read_block b bytes)
  most : (view : BlockView) → (read_tail b one ≡ Some view) ⊎ (read_tail b two ≡ Some view) → view.length ≤ has.view.length

record NoneChosen (b : ℕ) (one two : List ℕ) (found : Option Taken) : Type 0 where
  first : read_tail b one ≡ None
  second : read_tail b two ≡ None
  none : found ≡ None

none-some : (found : Option BlockView) (view : BlockView) → found ≡ None → found ≡ Some view → ⊥
none-some found view none some = cc

same-length : (found : Option BlockView) (a b : BlockView) → found ≡ Some a → found ≡ Some b → a.length ≡ b.length
same-length found a b first second = cc

longer-not : (one two : List ℕ) (a c : BlockView) → c.length ≤ a.length → longer one two (Some a) (Some c) ≡ taken_from one (Some a)
longer-not one two a c less =
    let test : nat_lt a.length c.length ≡ false = grind (arith, nat_tests) in
    ap (λ t. cond t (taken_from two (Some c)) (taken_from one (Some a))) test

longer-yes : (one two : List ℕ) (a c : BlockView) → a.length < c.length → longer one two (Some a) (Some c) ≡ taken_from two (Some c)
longer-yes one two a c less =
    let test : nat_lt a.length c.length ≡ true = grind (arith, nat_tests) in
    ap (λ t. cond t (taken_from two (Some c)) (taken_from one (Some a))) test

both : (one two : List ℕ) (b : ℕ) (first second : Option BlockView) → read_tail b one ≡ first → read_tail b two ≡ second
    → longer one two (read_tail b one) (read_tail b two) ≡ longer one two first second
both one two b first second is_first is_second = ap (λ x. longer one two x (read_tail b two)) is_first ∙ ap (longer one two first) is_second

choose : (s : ℕ) (wholes : List Whole) (high b : ℕ) (one two : List ℕ) → TailOr s wholes high b one → TailOr s wholes high b two
    → NoneChosen b one two (longer one two (read_tail b one) (read_tail b two)) ⊎ Chosen s wholes high b one two (longer one two (read_tail b one) (read_tail b two))
choose s wholes high b one two (inl first) (inl second) =
    inl (record { first = first; second = second; none = both one two b None None first second })
choose s wholes high b one two (inl first) (inr second) =
    inr (record {
      bytes = two;
      has = second;
      is = both one two b None (Some second.view) first second.tail ∙ ap (taken_from two) (sym second.whole);
      most = λ view is. ⊎_elim (λ here. absurd (none-some (read_tail b one) view first here))
          (λ there. omega (arith, same-length (read_tail b two) view second.view there second.tail)) is;
    })
choose s wholes high b one two (inr first) (inl second) =
    inr (record {
      bytes = one;
      has = first;
      is = both one two b (Some first.view) None first.tail second ∙ ap (taken_from one) (sym first.whole);
      most = λ view is. ⊎_elim (λ here. omega (arith, same-length (read_tail b one) view first.view here first.tail))
          (λ there. absurd (none-some (read_tail b two) view second there)) is;
    })
choose s wholes high b one two (inr first) (inr second) =
    ⊎_elim (λ less. inr (record {
      bytes = two;
      has = second;
      is = both one two b (Some first.view) (Some second.view) first.tail second.tail ∙ longer-yes one two first.view second.view less ∙ ap (taken_from two) (sym second.whole);
      most = λ view is. ⊎_elim (λ here. omega (arith, same-length (read_tail b one) view first.view here first.tail))
          (λ there. omega (arith, same-length (read_tail b two) view second.view there second.tail)) is;
    })) (λ not_less. inr (record {
      bytes = one;
      has = first;
      is = both one two b (Some first.view) (Some second.view) first.tail second.tail ∙ longer-not one two first.view second.view not_less ∙ ap (taken_from one) (sym first.whole);
      most = λ view is. ⊎_elim (λ here. omega (arith, same-length (read_tail b one) view first.view here first.tail))
          (λ there. omega (arith, same-length (read_tail b two) view second.view there second.tail)) is;
    })) (cases_lt first.view.length second.view.length)

-- WHAT THE SCAN TAKES.

-- the kept mark's incomplete block stands in one of the two
pub record KeepsTail (s : ℕ) (wholes : List Whole) (kept : ℕ) (one two : List ℕ) : Type 0 where
  pub there : HoldsTail s wholes kept one ⊎ HoldsTail s wholes kept two

-- it is found in the block of the mark
kept-found : (s : ℕ) (wholes : List Whole) (kept b : ℕ) (one two : List ℕ) → IsRunWithBytes s wholes → IsBoundary s (spans_of wholes) kept → b % 512 ≡ 0
    → b + 12 < kept → kept < b + 524 → KeepsTail s wholes kept one two
    → (view : BlockView) × ((read_tail b one ≡ Some view) ⊎ (read_tail b two ≡ Some view)) × (view.length ≡ kept - b)
kept-found s wholes kept b one two run boundary aligned some part keeps =
    let after = boundary-reached s wholes kept (data-start s run.starts) run.run boundary in
    let same : block_of kept ≡ b = omega (arith, after.place) in
    let more : block_of kept + 12 < kept = omega arith in
    ⊎_elim (λ first. ⊎_elim (λ none. absurd (omega arith))
    (λ is. let found = tail-read s wholes kept one run boundary more is in
    (found.0, inl (subst (λ (c : ℕ). read_tail c one ≡ Some found.0) same found.1), omega (arith, found.2))) first)
    (λ second. ⊎_elim (λ none. absurd (omega arith))
    (λ is. let found = tail-read s wholes kept two run boundary more is in
    (found.0, inr (subst (λ (c : ℕ). read_tail c two ≡ Some found.0) same found.1), omega (arith, found.2))) second) keeps.there

in-place : (bytes : List ℕ) (view : BlockView) (found : Option BlockView) (tail : Option Taken) → found ≡ Some view → in_place_or bytes found tail ≡ taken_from bytes (Some view)
in-place bytes view found tail is = ap (λ x. in_place_or bytes x tail) is

not-in-place : (bytes : List ℕ) (found : Option BlockView) (tail : Option Taken) → found ≡ None → in_place_or bytes found tail ≡ tail
not-in-place bytes found tail is = ap (λ x. in_place_or bytes x tail) is

pub takes : (s : ℕ) (wholes : List Whole) (low high b : ℕ) (place one two : List ℕ) → IsRunWithBytes s wholes → IsBoundary s (spans_of wholes) low → IsBoundary s (spans_of wholes) high
    → low ≤ high → b % 512 ≡ 0 → IsBlockPlace s wholes low high b place
    → (read_tail b one ≡ None) ⊎ IsPartBlock s wholes high b one → (read_tail b two ≡ None) ⊎ IsPartBlock s wholes high b two
    → KeepsTail s wholes low one two → IsTaken s wholes low high b (taken_among Two b place one two)
takes s wholes low high b place one two run low_is high_is later aligned stands first second keeps =
    ⊎_elim (λ full.
    let found = full-read s wholes high b place run high_is full in
    inl (record {
      mark = high;
      boundary = high_is;
      from = later;
      up_to = omega arith;
      some = omega (arith, full.full);
      bytes = place;
      block = full.block;
      is = in-place place found.0 (read_full b place) (longer one two (read_tail b one) (read_tail b two)) found.1 ∙ ap (taken_from place) (sym found.2);
    }))
    (λ none.
    let out : taken_among Two b place one two ≡ longer one two (read_tail b one) (read_tail b two) = not-in-place place (read_full b place) (longer one two (read_tail b one) (read_tail b two)) none.unread in
    ⊎_elim (λ empty. ⊎_elim
    (λ some.
    let found = kept-found s wholes low b one two run low_is aligned some (omega (arith, none.none_below)) keeps in
    absurd (⊎_elim (λ here. none-some (read_tail b one) found.0 empty.first here) (λ there. none-some (read_tail b two) found.0 empty.second there) found.1))
    (λ below. inr (record { none_below = below; none = out ∙ empty.none })) (cases_lt (b + 12) low))
    (λ chosen. inl (record {
      mark = chosen.has.part.mark;
      boundary = chosen.has.part.boundary;
      from = ⊎_elim (λ some.
          let found = kept-found s wholes low b one two run low_is aligned some (omega (arith, none.none_below)) keeps in
          omega (arith, chosen.most found.0 found.1, found.2, chosen.has.length_is, chosen.has.part.some))
          (λ below. omega (arith, chosen.has.part.some)) (cases_lt (b + 12) low);
      up_to = chosen.has.part.up_to;
      some = chosen.has.part.some;
      bytes = chosen.bytes;
      block = chosen.has.part.block;
      is = out ∙ chosen.is;
    }))
    (choose s wholes high b one two (tail-or s wholes high b one run aligned first) (tail-or s wholes high b two run aligned second))) stands
