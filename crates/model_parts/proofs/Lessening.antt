-- A log of which blocks are being cleared away gives less, in each format.
use Rattle.std.proofs.Common.{◌≡◌, ◌≤◌, ◌<◌, ◌%◌, ℕ, inl, inr, Bool, true, false, cond, List, length, Option, Some, None, refl, sym, ap, subst, ◌∙◌, ⊎_elim, arith}
use Rattle.std.specs.Prelude.{nat_lt}
use Rattle.std.specs.Option.{option_map}
use Rattle.model_base.specs.declared.shape.Shape.{Shape}
use Rattle.model_base.specs.declared.limits.TheConstants.{LSN_LIMIT}
use Rattle.model_log.specs.declared.group.Whole.{Whole}
use Rattle.model_log.specs.{block_of, header_block, is_full, IsInRound, layout_of, log_block, lsn_at, read_block, sector_of}
use Rattle.model_log.specs.declared.block.BlockView.{BlockView}
use Rattle.model_log.specs.declared.head.Format.{Format}
use Rattle.model_log.specs.declared.head.Format.TheVariants.{One, Two, Three}
use Rattle.model_log.specs.declared.layout.Layout.{Layout}
use Rattle.model_log.proofs.Formats.{two-not_one}
use Rattle.model_device.specs.{sector}
use Rattle.model_store.specs.{AreFoundIn, AreInPlace, IsInTail, IsScan, read_full, read_tail, Taken, taken, taken_among, taken_from, view_at}
use Rattle.model_store.specs.declared.tail.Tail.{Tail}
use Rattle.model_store.proofs.Sources.{Found, found-at}
use Rattle.model_store.proofs.Taking.{from-full, taken-none_one, taken-same_one}
use Rattle.model_parts.specs.Changes.{IsErased, IsErasing, IsUnsealed}
use Rattle.model_parts.specs.Cleared.{IsClearing, IsPastKept, IsStaleTail}
use Rattle.model_parts.proofs.Clearing.{at-round, block-sector, goes, goes-on, gone-on, IsLog, IsOther, IsTailIn, IsTailOf, kept-not_past, ring-not_stale, stays, taken-not_past}
use Rattle.model_parts.proofs.Dropping.{Drops}
use Rattle.model_parts.proofs.Stages.{among-full, among-tails, blocks-drop, blocks-drop_five, blocks-drop_four, BlocksGo, EndsInPlace, EndsInTail, IsInPlace, IsTaken, Looked, MayGo, source_of, TailBlocksGo, tails-drop, tails-drop_five, tails-drop_four, TailsGo}
use Rattle.model_parts.proofs.Unread.{unsealed-unread}

-- the layout of formats 2 and 3
abbrev two : Shape → Layout
two shape = layout_of Two shape

-- what the scan of such a log looks at
abbrev looked : Shape → List ℕ → Looked
looked shape image = record {
  place = λ b. log_block (two shape) b image;
  four = header_block 4 image;
  five = header_block 5 image;
}

-- WHERE THE SCAN TOOK ITS BLOCKS.

limit-some : (t : Bool) (x : Option Taken) (block : Taken) → cond t x None ≡ Some block → x ≡ Some block
limit-some true x block is = is
limit-some false x block is = absurd cc

view-none : (found : Option Taken) → option_map (λ (block : Taken). block.view) found ≡ None → found ≡ None
view-none None is = refl
view-none (Some block) is = absurd cc

some-view : (bytes : List ℕ) (view : BlockView) (block : Taken) → taken_from bytes (Some view) ≡ Some block → block.view ≡ view
some-view bytes view block is = cc

-- the full block in its place is the one that was taken
in-place_view : (log : Looked) (b : ℕ) (own view : BlockView) → read_full b (log.place b) ≡ Some own → view_at (source_of log) b ≡ Some view → is_full view ≡ true
in-place_view log b own view full at =
    let found : Found (source_of log) b view = found-at (source_of log) b view at in
    let among : taken_among Two b (log.place b) log.four log.five ≡ Some found.block =
    limit-some (nat_lt b LSN_LIMIT) (taken_among Two b (log.place b) log.four log.five) found.block found.is in
    let same : found.block.view ≡ own = some-view (log.place b) own found.block (sym (among-full b (log.place b) log.four log.five own full) ∙ among) in
    ap is_full (sym found.view_is ∙ same) ∙ (from-full (read_block b (log.place b)) own full).1

both-ways : (t : Bool) → t ≡ true → t ≡ false → ⊥
both-ways t is isnt = cc

in-place : (shape : Shape) (image : List ℕ) (ckpt n : ℕ) → AreInPlace (two shape) image ckpt n → (i : ℕ) → i < n → IsInPlace (looked shape image) (lsn_at ckpt i)
in-place shape image ckpt n are i below = let found = are i below in record { view = found.0; full = found.1 }

-- all of them in their places
ends-in_place : (shape most_shape : Shape) (image : List ℕ) (ckpt : ℕ) (views : List BlockView) (wholes : List Whole) (end : ℕ)
    → IsScan most_shape (two shape).blocks (taken (two shape) image) ckpt views wholes end → AreInPlace (two shape) image ckpt (length views)
    → EndsInPlace (looked shape image) ckpt (length views) (two shape).blocks
ends-in_place shape most_shape image ckpt views wholes end scan are = record {
  each = in-place shape image ckpt (length views) are;
  last = ⊎_elim (λ all. inl all) (λ other. ⊎_elim
      (λ part. (let view : BlockView = part.0 in
      let here = in-place shape image ckpt (length views) are part.1 (omega (arith, part.2)) in
      let full : is_full view ≡ true = in-place_view (looked shape image) (lsn_at ckpt part.1) here.view view here.full (scan.blocks.each part.1 view part.3) in
      absurd (both-ways (is_full view) full part.4)))
      (λ none. inr (view-none (source_of (looked shape image) (lsn_at ckpt (length views))) none)) other) scan.blocks.last;
}

-- the last one in the tail block
is-taken : (shape : Shape) (image : List ℕ) (b which : ℕ) (view : BlockView) → read_full b (log_block (two shape) b image) ≡ None → read_tail b (header_block which image) ≡ Some view
    → taken (two shape) image b ≡ taken_from (header_block which image) (Some view) → IsTaken (looked shape image) b (header_block which image)
is-taken shape image b which view none fits is = record {
  place = none;
  view = view;
  fits = fits;
  is = sym (among-tails b (log_block (two shape) b image) (header_block 4 image) (header_block 5 image) none)
      ∙ limit-some (nat_lt b LSN_LIMIT) (taken_among Two b (log_block (two shape) b image) (header_block 4 image) (header_block 5 image)) _ is;
}

ends-in_tail : (shape : Shape) (image : List ℕ) (ckpt : ℕ) (views : List BlockView) (tail : Tail) (which : ℕ) (is : IsInTail (two shape) image ckpt views tail) → tail.which ≡ which
    → EndsInTail (looked shape image) (header_block which image) ckpt (length views) is.last
ends-in_tail shape image ckpt views tail which is same = record {
  count = sym is.is_last;
  each = in-place shape image ckpt is.last is.before;
  last = subst (λ (k : ℕ). IsTaken (looked shape image) (lsn_at ckpt is.last) (header_block k image)) same
      (subst (λ (b : ℕ). IsTaken (looked shape image) b (header_block tail.which image)) is.lsn_is
      (is-taken shape image tail.lsn tail.which is.view is.unread is.fits is.is_taken));
}

-- THE BLOCK THAT WAS TAKEN FROM A TAIL BLOCK is in the round.

tail-in_two : (shape most_shape : Shape) (image : List ℕ) (ckpt : ℕ) (views : List BlockView) (wholes : List Whole) (end : ℕ) (tail : Tail) → ckpt % 512 ≡ 0
    → IsScan most_shape (two shape).blocks (taken (two shape) image) ckpt views wholes end → AreFoundIn (two shape) image ckpt views (Some tail)
    → IsTailIn (two shape) ckpt (Some tail)
tail-in_two shape most_shape image ckpt views wholes end tail aligned scan found = record {
  place = found.place;
  before = refl;
  in_round = subst (λ (b : ℕ). IsInRound (two shape) ckpt b) (sym found.lsn_is)
      (at-round (two shape) ckpt found.last aligned (let few : length views ≤ (two shape).blocks = scan.blocks.few in omega (arith, found.is_last)));
}

pub tail-in : (format : Format) (shape most_shape : Shape) (image : List ℕ) (ckpt : ℕ) (views : List BlockView) (wholes : List Whole) (end : ℕ) (tail : Option Tail) → ckpt % 512 ≡ 0
    → IsScan most_shape (layout_of format shape).blocks (taken (layout_of format shape) image) ckpt views wholes end → AreFoundIn (layout_of format shape) image ckpt views tail
    → IsTailIn (layout_of format shape) ckpt tail
tail-in format shape most_shape image ckpt views wholes end None aligned scan found = tt
tail-in One shape most_shape image ckpt views wholes end (Some tail) aligned scan found = absurd (found.format refl)
tail-in Two shape most_shape image ckpt views wholes end (Some tail) aligned scan found = tail-in_two shape most_shape image ckpt views wholes end tail aligned scan found
tail-in Three shape most_shape image ckpt views wholes end (Some tail) aligned scan found = tail-in_two shape most_shape image ckpt views wholes end tail aligned scan found

-- IN FORMAT 1 the blocks stand in their places.

one-drops : (shape : Shape) (n ckpt start : ℕ) (old new : List ℕ) → IsLog (layout_of One shape) ckpt start → IsClearing (layout_of One shape) ckpt start None old new
    → Drops n (layout_of One shape).blocks ckpt start (taken (layout_of One shape) old) (taken (layout_of One shape) new)
one-drops shape n ckpt start old new log clearing =
    let layout : Layout = layout_of One shape in
    let Stale : ℕ → Type 0 = IsStaleTail layout None in
    let Past : ℕ → Type 0 = IsPastKept layout ckpt start None in
    let none : (k : ℕ) → Stale k → ⊥ = λ k stale. absurd (stale.format refl) in
    let place : (b : ℕ) → log_block layout b new ≡ sector (sector_of layout b) new = λ b. block-sector layout b new in
    let may : (b : ℕ) → MayGo (log_block layout b old) (log_block layout b new) = λ b.
    subst (λ (x : List ℕ). MayGo x (log_block layout b new)) (sym (block-sector layout b old))
    (subst (λ (y : List ℕ). MayGo (sector (sector_of layout b) old) y) (sym (place b))
    (⊎_elim (λ erasing. goes Stale old new (sector_of layout b) erasing)
    (λ later. goes-on Stale Past old later.0 new (sector_of layout b) later.1 later.2 (none (sector_of layout b))) clearing)) in
    let kept : (b : ℕ) → IsInRound layout ckpt b → b < block_of start → log_block layout b new ≡ log_block layout b old = λ b in_round before.
    place b ∙ ⊎_elim (λ erasing. stays Stale old new (sector_of layout b) erasing (none (sector_of layout b)))
    (λ later. stays Past later.0 new (sector_of layout b) later.2 (kept-not_past layout ckpt start b None log tt (record { in_round = in_round; before = before }) tt)
    ∙ later.1.others (sector_of layout b) (none (sector_of layout b))) clearing ∙ sym (block-sector layout b old) in
    record {
      kept = λ i below within before. taken-same_one layout old new (lsn_at ckpt i) refl (kept (lsn_at ckpt i) (at-round layout ckpt i log.aligned within) before);
      dropped = λ i up_to within from. ⊎_elim (λ same. inl (taken-same_one layout old new (lsn_at ckpt i) refl same))
          (λ gone. inr (taken-none_one layout new (lsn_at ckpt i) refl (unsealed-unread (lsn_at ckpt i) (log_block layout (lsn_at ckpt i) new) gone))) (may (lsn_at ckpt i));
    }

-- IN FORMAT 2: STAGE ONE.

place-stays : (shape : Shape) (ckpt start b : ℕ) (tail : Option Tail) (old new : List ℕ) → IsLog (two shape) ckpt start → IsErasing (IsStaleTail (two shape) tail) old new
    → log_block (two shape) b new ≡ log_block (two shape) b old
place-stays shape ckpt start b tail old new log erasing =
    block-sector (two shape) b new ∙ stays (IsStaleTail (two shape) tail) old new (sector_of (two shape) b) erasing (ring-not_stale (two shape) ckpt start b tail log)
    ∙ sym (block-sector (two shape) b old)

tails-go : (shape : Shape) (ckpt start : ℕ) (tail : Option Tail) (old new : List ℕ) → IsLog (two shape) ckpt start → IsErasing (IsStaleTail (two shape) tail) old new
    → TailsGo (looked shape old) (looked shape new)
tails-go shape ckpt start tail old new log erasing = record {
  place = λ b. place-stays shape ckpt start b tail old new log erasing;
  four = goes (IsStaleTail (two shape) tail) old new 4 erasing;
  five = goes (IsStaleTail (two shape) tail) old new 5 erasing;
}

taken-stays : (shape : Shape) (tail : Tail) (which : ℕ) (old new : List ℕ) → tail.which ≡ which → IsErasing (IsStaleTail (two shape) (Some tail)) old new
    → header_block which new ≡ header_block which old
taken-stays shape tail which old new same erasing =
    stays (IsStaleTail (two shape) (Some tail)) old new which erasing (λ stale. stale.not_taken (sym same))

-- STAGE TWO.

place-goes_on : (shape : Shape) (ckpt start b : ℕ) (tail : Option Tail) (old middle new : List ℕ) → IsLog (two shape) ckpt start → IsErased (IsStaleTail (two shape) tail) old middle
    → IsErasing (IsPastKept (two shape) ckpt start tail) middle new → MayGo (log_block (two shape) b old) (log_block (two shape) b new)
place-goes_on shape ckpt start b tail old middle new log first then =
    subst (λ (x : List ℕ). MayGo x (log_block (two shape) b new)) (sym (block-sector (two shape) b old))
    (subst (λ (y : List ℕ). MayGo (sector (sector_of (two shape) b) old) y) (sym (block-sector (two shape) b new))
    (goes-on (IsStaleTail (two shape) tail) (IsPastKept (two shape) ckpt start tail) old middle new (sector_of (two shape) b) first then (ring-not_stale (two shape) ckpt start b tail log)))

place-kept : (shape : Shape) (ckpt start b : ℕ) (tail : Option Tail) (old middle new : List ℕ) → IsLog (two shape) ckpt start → IsTailIn (two shape) ckpt tail
    → IsErased (IsStaleTail (two shape) tail) old middle → IsErasing (IsPastKept (two shape) ckpt start tail) middle new
    → IsInRound (two shape) ckpt b → b < block_of start → IsOther tail b → log_block (two shape) b new ≡ log_block (two shape) b old
place-kept shape ckpt start b tail old middle new log is first then in_round before other =
    block-sector (two shape) b new
    ∙ stays (IsPastKept (two shape) ckpt start tail) middle new (sector_of (two shape) b) then (kept-not_past (two shape) ckpt start b tail log is (record { in_round = in_round; before = before }) other)
    ∙ first.others (sector_of (two shape) b) (ring-not_stale (two shape) ckpt start b tail log) ∙ sym (block-sector (two shape) b old)

stale-gone : (shape : Shape) (ckpt start k : ℕ) (tail : Option Tail) (old middle new : List ℕ) → IsErased (IsStaleTail (two shape) tail) old middle
    → IsErasing (IsPastKept (two shape) ckpt start tail) middle new → IsStaleTail (two shape) tail k → IsUnsealed (sector k new)
stale-gone shape ckpt start k tail old middle new first then stale =
    gone-on (sector k middle) (sector k new) (goes (IsPastKept (two shape) ckpt start tail) middle new k then) (first.gone k stale)

blocks-go : (shape : Shape) (ckpt n start : ℕ) (old middle new : List ℕ) → n ≤ (two shape).blocks → IsLog (two shape) ckpt start → IsErased (IsStaleTail (two shape) None) old middle
    → IsErasing (IsPastKept (two shape) ckpt start None) middle new → BlocksGo ckpt n (two shape).blocks start (looked shape old) (looked shape new)
blocks-go shape ckpt n start old middle new few log first then = record {
  kept = λ i below before. place-kept shape ckpt start (lsn_at ckpt i) None old middle new log tt first then (at-round (two shape) ckpt i log.aligned (omega arith)) before tt;
  place = λ i within. place-goes_on shape ckpt start (lsn_at ckpt i) None old middle new log first then;
  four = stale-gone shape ckpt start 4 None old middle new first then (record { format = two-not_one; place = inl refl; not_taken = λ none. none });
  five = stale-gone shape ckpt start 5 None old middle new first then (record { format = two-not_one; place = inr refl; not_taken = λ none. none });
}

lsn-other : (ckpt m i : ℕ) (tail : Tail) → tail.lsn ≡ lsn_at ckpt m → i < m → lsn_at ckpt i ≡ tail.lsn → ⊥
lsn-other ckpt m i tail is below same = omega arith

-- where the block stood in the one tail block, the other one is gone
tail-goes : (shape : Shape) (ckpt m start which other : ℕ) (tail : Tail) (old middle new : List ℕ) → m < (two shape).blocks → IsLog (two shape) ckpt start → IsTailOf (two shape) ckpt tail
    → tail.which ≡ which → tail.lsn ≡ lsn_at ckpt m → IsStaleTail (two shape) (Some tail) other
    → IsErased (IsStaleTail (two shape) (Some tail)) old middle → IsErasing (IsPastKept (two shape) ckpt start (Some tail)) middle new
    → TailBlocksGo ckpt m (two shape).blocks start (looked shape old) (looked shape new) (header_block which old) (header_block which new) (header_block other new)
tail-goes shape ckpt m start which other tail old middle new few log is same lsn_is stale first then =
    let Stale : ℕ → Type 0 = IsStaleTail (two shape) (Some tail) in
    let Past : ℕ → Type 0 = IsPastKept (two shape) ckpt start (Some tail) in
    let own : Stale which → ⊥ = λ of. of.not_taken (sym same) in
    record {
      kept = λ i below before. place-kept shape ckpt start (lsn_at ckpt i) (Some tail) old middle new log is first then (at-round (two shape) ckpt i log.aligned (omega arith)) before
          (lsn-other ckpt m i tail lsn_is below);
      place = λ i within. place-goes_on shape ckpt start (lsn_at ckpt i) (Some tail) old middle new log first then;
      tail = λ before. stays Past middle new which then
          (λ past. taken-not_past (two shape) ckpt start tail log is (omega arith) (subst Past (sym same) past))
          ∙ first.others which own;
      tail_may = goes-on Stale Past old middle new which first then own;
      other = stale-gone shape ckpt start other (Some tail) old middle new first then stale;
    }

-- so a log gives less while it is cleared
two-drops : (shape most_shape : Shape) (ckpt start : ℕ) (views : List BlockView) (wholes : List Whole) (end : ℕ) (tail : Option Tail) (old new : List ℕ)
    → IsLog (two shape) ckpt start → IsScan most_shape (two shape).blocks (taken (two shape) old) ckpt views wholes end
    → AreFoundIn (two shape) old ckpt views tail → IsClearing (two shape) ckpt start tail old new
    → Drops (length views) (two shape).blocks ckpt start (taken (two shape) old) (taken (two shape) new)
two-drops shape most_shape ckpt start views wholes end None old new log scan found clearing =
    let n : ℕ = length views in
    let ends : EndsInPlace (looked shape old) ckpt n (two shape).blocks = ends-in_place shape most_shape old ckpt views wholes end scan (found two-not_one) in
    ⊎_elim (λ erasing. tails-drop ckpt n (two shape).blocks start (looked shape old) (looked shape new) ends (tails-go shape ckpt start None old new log erasing))
    (λ later. blocks-drop ckpt n (two shape).blocks start (looked shape old) (looked shape new) ends
    (blocks-go shape ckpt n start old later.0 new scan.blocks.few log later.1 later.2)) clearing
two-drops shape most_shape ckpt start views wholes end (Some tail) old new log scan found clearing =
    let n : ℕ = length views in
    let most : ℕ = (two shape).blocks in
    let few : found.last < most = omega (arith, found.is_last, scan.blocks.few) in
    let is : IsTailOf (two shape) ckpt tail = tail-in Two shape most_shape old ckpt views wholes end (Some tail) log.aligned scan found in
    ⊎_elim
    (λ four. ⊎_elim
    (λ erasing. tails-drop_four ckpt n found.last most start (looked shape old) (looked shape new) log.aligned (ends-in_tail shape old ckpt views tail 4 found four)
    (tails-go shape ckpt start (Some tail) old new log erasing) (taken-stays shape tail 4 old new four erasing))
    (λ later. blocks-drop_four ckpt n found.last most start (looked shape old) (looked shape new) log.aligned few (ends-in_tail shape old ckpt views tail 4 found four)
    (tail-goes shape ckpt found.last start 4 5 tail old later.0 new few log is four found.lsn_is
    (record { format = two-not_one; place = inr refl; not_taken = λ five. omega arith }) later.1 later.2)) clearing)
    (λ five. ⊎_elim
    (λ erasing. tails-drop_five ckpt n found.last most start (looked shape old) (looked shape new) log.aligned (ends-in_tail shape old ckpt views tail 5 found five)
    (tails-go shape ckpt start (Some tail) old new log erasing) (taken-stays shape tail 5 old new five erasing))
    (λ later. blocks-drop_five ckpt n found.last most start (looked shape old) (looked shape new) log.aligned few (ends-in_tail shape old ckpt views tail 5 found five)
    (tail-goes shape ckpt found.last start 5 4 tail old later.0 new few log is five found.lsn_is
    (record { format = two-not_one; place = inl refl; not_taken = λ four. omega arith }) later.1 later.2)) clearing)
    found.place

pub clearing-drops : (format : Format) (shape most_shape : Shape) (ckpt start : ℕ) (views : List BlockView) (wholes : List Whole) (end : ℕ) (tail : Option Tail) (old new : List ℕ)
    → IsLog (layout_of format shape) ckpt start → IsScan most_shape (layout_of format shape).blocks (taken (layout_of format shape) old) ckpt views wholes end
    → AreFoundIn (layout_of format shape) old ckpt views tail → IsClearing (layout_of format shape) ckpt start tail old new
    → Drops (length views) (layout_of format shape).blocks ckpt start (taken (layout_of format shape) old) (taken (layout_of format shape) new)
clearing-drops One shape most_shape ckpt start views wholes end None old new log scan found clearing = one-drops shape (length views) ckpt start old new log clearing
clearing-drops One shape most_shape ckpt start views wholes end (Some tail) old new log scan found clearing = absurd (found.format refl)
clearing-drops Two shape most_shape ckpt start views wholes end tail old new log scan found clearing =
    two-drops shape most_shape ckpt start views wholes end tail old new log scan found clearing
clearing-drops Three shape most_shape ckpt start views wholes end tail old new log scan found clearing =
    two-drops shape most_shape ckpt start views wholes end tail old new log scan found clearing
