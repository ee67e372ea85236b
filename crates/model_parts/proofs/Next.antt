-- Once a log is cleared, nothing is read of it from where the run starts on.
use Rattle.std.proofs.Common.{◌≡◌, ◌≤◌, ◌<◌, ◌+◌, ◌-◌, ◌*◌, ◌/◌, ◌%◌, ◌⊎◌, ℕ, inl, inr, Bool, true, false, cond, List, length, take, drop, Option, Some, None, refl, sym, ap, subst, ◌∙◌, ⊎_elim, arith, ◌≢◌}
use Rattle.std.specs.Prelude.{nat_lt}
use Rattle.std.specs.Option.{option_map}
use Rattle.std.proofs.lemmas.Bool.{cases_lt}
use Rattle.model_base.specs.declared.shape.Shape.{Shape}
use Rattle.model_base.specs.declared.limits.TheConstants.{LSN_LIMIT}
use Rattle.model_device.specs.{sector}
use Rattle.model_log.specs.declared.block.BlockView.{BlockView}
use Rattle.model_log.specs.declared.group.Whole.{Whole}
use Rattle.model_log.specs.declared.head.Format.{Format}
use Rattle.model_log.specs.declared.head.Format.TheVariants.{One, Two, Three}
use Rattle.model_log.specs.declared.layout.Layout.{Layout}
use Rattle.model_log.specs.{block_of, header_block, IsInRound, IsTailPlace, layout_of, log_block, lsn_at, place_in, read_block, round_of, sector_of}
use Rattle.model_log.proofs.Layouts.{has-blocks}
use Rattle.model_log.proofs.Places.{HasBlocks, place-round}
use Rattle.model_log.proofs.Formats.{two-not_one}
use Rattle.model_store.specs.{AreFoundIn, IsScan, read_tail, Taken, taken, taken_from}
use Rattle.model_store.specs.declared.tail.Tail.{Tail}
use Rattle.model_store.proofs.Places.{has_place}
use Rattle.model_store.proofs.Taking.{from-full, taken-none_one, taken-none_two, unread-full}
use Rattle.model_parts.specs.Changes.{IsUnsealed}
use Rattle.model_parts.specs.Cleared.{IsCleared, IsInKeptRange, IsPastKept, IsStaleTail}
use Rattle.model_parts.proofs.Clearing.{block-sector, IsLog, IsOther, IsTailIn, kept-not_past, ring-not_stale, stale-not_past, taken-not_past}
use Rattle.model_parts.proofs.Unread.{round-unread, tail-once, unsealed-tail, unsealed-unread}

-- WHERE THE BLOCKS STOOD THAT WERE READ, but for one that was taken from a tail block.

one-view : (t : Bool) (bytes : List ℕ) (o : Option BlockView) (view : BlockView) → option_map (λ (block : Taken). block.view) (cond t (taken_from bytes o) None) ≡ Some view → o ≡ Some view
one-view true bytes None view is = absurd cc
one-view true bytes (Some found) view is = cc
one-view false bytes o view is = absurd cc

-- a block that fits in its place
abbrev pub FitsThere : Layout → List ℕ → ℕ → Type 0
FitsThere layout image b = (view : BlockView) × (read_block b (log_block layout b image) ≡ Some view)

fits-there : (format : Format) (shape : Shape) (most : ℕ) (ckpt i : ℕ) (views : List BlockView) (wholes : List Whole) (end : ℕ) (tail : Option Tail) (image : List ℕ)
    → IsScan shape most (taken (layout_of format shape) image) ckpt views wholes end → AreFoundIn (layout_of format shape) image ckpt views tail
    → i < length views → IsOther tail (lsn_at ckpt i) → FitsThere (layout_of format shape) image (lsn_at ckpt i)
fits-there One shape most ckpt i views wholes end tail image scan found below other =
    let b : ℕ = lsn_at ckpt i in
    let view = has_place views i below in
    (view.0, one-view (nat_lt b LSN_LIMIT) (log_block (layout_of One shape) b image) (read_block b (log_block (layout_of One shape) b image)) view.0 (scan.blocks.each i view.0 view.1))
fits-there Two shape most ckpt i views wholes end None image scan found below other =
    let full = found two-not_one i below in
    (full.0, (from-full (read_block (lsn_at ckpt i) (log_block (layout_of Two shape) (lsn_at ckpt i) image)) full.0 full.1).0)
fits-there Two shape most ckpt i views wholes end (Some tail) image scan found below other =
    ⊎_elim (λ early.
    let full = found.before i early in
    (full.0, (from-full (read_block (lsn_at ckpt i) (log_block (layout_of Two shape) (lsn_at ckpt i) image)) full.0 full.1).0))
    (λ late. absurd (other (let same : i ≡ found.last = omega (arith, found.is_last) in ap (lsn_at ckpt) same ∙ sym found.lsn_is))) (cases_lt i found.last)
fits-there Three shape most ckpt i views wholes end None image scan found below other =
    let full = found two-not_one i below in
    (full.0, (from-full (read_block (lsn_at ckpt i) (log_block (layout_of Three shape) (lsn_at ckpt i) image)) full.0 full.1).0)
fits-there Three shape most ckpt i views wholes end (Some tail) image scan found below other =
    ⊎_elim (λ early.
    let full = found.before i early in
    (full.0, (from-full (read_block (lsn_at ckpt i) (log_block (layout_of Three shape) (lsn_at ckpt i) image)) full.0 full.1).0))
    (λ late. absurd (other (let same : i ≡ found.last = omega (arith, found.is_last) in ap (lsn_at ckpt) same ∙ sym found.lsn_is))) (cases_lt i found.last)

-- WHAT STANDS IN THE RING once the log is cleared: below the start blocks that fit there, or nothing, and from there on
-- nothing.
pub record IsGoneFrom (layout : Layout) (ckpt start : ℕ) (image : List ℕ) : Type 0 where
  pub below : (b : ℕ) → b % 512 ≡ 0 → ckpt ≤ b → b < block_of start → FitsThere layout image b ⊎ IsUnsealed (log_block layout b image)
  pub from : (b : ℕ) → b % 512 ≡ 0 → block_of start ≤ b → b < ckpt + round_of layout → IsUnsealed (log_block layout b image)

is-or_other : (tail : Option Tail) (b : ℕ) → ((found : Tail) × (tail ≡ Some found) × (b ≡ found.lsn)) ⊎ IsOther tail b
is-or_other None b = inr tt
is-or_other (Some tail) b =
    ⊎_elim (λ less. inr (λ same. omega arith))
    (λ not_less. ⊎_elim (λ more. inr (λ same. omega arith)) (λ not_more. inl (tail, refl, omega arith)) (cases_lt tail.lsn b)) (cases_lt b tail.lsn)

gone-block : (layout : Layout) (b : ℕ) (image : List ℕ) → IsUnsealed (sector (sector_of layout b) image) → IsUnsealed (log_block layout b image)
gone-block layout b image gone = subst IsUnsealed (sym (block-sector layout b image)) gone

pub gone-from : (format : Format) (shape : Shape) (most : ℕ) (ckpt start : ℕ) (views : List BlockView) (wholes : List Whole) (end : ℕ) (tail : Option Tail) (old new : List ℕ)
    → IsLog (layout_of format shape) ckpt start → IsTailIn (layout_of format shape) ckpt tail → start ≤ ckpt + 512 * length views + 12
    → IsScan shape most (taken (layout_of format shape) old) ckpt views wholes end → AreFoundIn (layout_of format shape) old ckpt views tail
    → IsCleared (layout_of format shape) ckpt start tail old new → IsGoneFrom (layout_of format shape) ckpt start new
gone-from format shape most ckpt start views wholes end tail old new log is among scan found cleared =
    let layout : Layout = layout_of format shape in
    let Past : ℕ → Type 0 = IsPastKept layout ckpt start tail in
    record {
      below = λ b aligned from before.
          ⊎_elim
          (λ own. inr (gone-block layout b new (cleared.then.gone (sector_of layout b)
          (subst (λ (t : Option Tail). IsPastKept layout ckpt start t (sector_of layout b)) (sym own.1) (inr (inl (ap (sector_of layout) own.2)))))))
          (λ other.
          let i : ℕ = (b - ckpt) / 512 in
          let at : lsn_at ckpt i ≡ b = omega (arith, log.aligned) in
          let kept : IsInKeptRange layout ckpt start b = record { in_round = record { aligned = aligned; from = from; below = omega (arith, log.high, log.aligned, log.place) }; before = before } in
          let same : log_block layout b new ≡ log_block layout b old =
          block-sector layout b new
          ∙ cleared.then.others (sector_of layout b) (kept-not_past layout ckpt start b tail log is kept other)
          ∙ cleared.first.others (sector_of layout b) (ring-not_stale layout ckpt start b tail log)
          ∙ sym (block-sector layout b old) in
          let stood : FitsThere layout old b = subst (FitsThere layout old) at
          (fits-there format shape most ckpt i views wholes end tail old scan found (omega arith) (subst (IsOther tail) (sym at) other)) in
          inl (stood.0, ap (read_block b) same ∙ stood.1))
          (is-or_other tail b);
      from = λ b aligned from below. gone-block layout b new (cleared.then.gone (sector_of layout b)
          (inl (b, record { in_round = record { aligned = aligned; from = omega (arith, log.low, log.place, log.aligned); below = below }; from = from }, refl)));
    }

-- so no block is read from the start up to one round on
pub round-gone : (layout : Layout) (ckpt start : ℕ) (image : List ℕ) → IsLog layout ckpt start → IsGoneFrom layout ckpt start image
    → (b : ℕ) → IsInRound layout (start - 12) b → read_block b (log_block layout b image) ≡ None
unfolding log_block
round-gone layout ckpt start image log gone b in_round =
    let n : ℕ = round_of layout in
    let blocks : HasBlocks layout = has-blocks layout log.is_layout in
    let from : start - 12 ≤ b = in_round.from in
    let below : b < start - 12 + n = in_round.below in
    let low : ckpt + 12 ≤ start = log.low in
    let high : start ≤ ckpt + n + 12 = log.high in
    let b_aligned : b % 512 ≡ 0 = in_round.aligned in
    ⊎_elim
    (λ near. unsealed-unread b (log_block layout b image) (gone.from b b_aligned (omega (arith, log.place)) near))
    (λ far.
    let old_b : ℕ = b - n in
    let is : old_b + n ≡ b = omega arith in
    let old_aligned : old_b % 512 ≡ 0 = omega arith in
    let same : place_in layout (old_b + n) ≡ place_in layout old_b = place-round layout old_b blocks old_aligned (omega (arith, log.started)) in
    let none : read_block (old_b + n) (log_block layout old_b image) ≡ None =
    ⊎_elim (λ fits. round-unread layout old_b (log_block layout old_b image) fits.0 blocks fits.1)
    (λ unsealed. unsealed-unread (old_b + n) (log_block layout old_b image) unsealed)
    (gone.below old_b old_aligned (omega arith) (omega (arith, log.place))) in
    let there : read_block (old_b + n) (log_block layout (old_b + n) image) ≡ None =
    ap (λ (at : ℕ). read_block (old_b + n) (take 512 (drop at image))) same ∙ none in
    subst (λ (c : ℕ). read_block c (log_block layout c image) ≡ None) is there)
    (cases_lt b (ckpt + n))

-- THE TAIL BLOCKS fit nowhere from the start on.

stale-unread : (layout : Layout) (ckpt start k b : ℕ) (tail : Option Tail) (old new : List ℕ) → IsLog layout ckpt start → IsTailIn layout ckpt tail
    → IsCleared layout ckpt start tail old new → IsStaleTail layout tail k → read_tail b (sector k new) ≡ None
stale-unread layout ckpt start k b tail old new log is cleared stale =
    ap (read_tail b) (cleared.then.others k (stale-not_past layout ckpt start k tail log is stale)) ∙ unsealed-tail b (sector k cleared.middle) (cleared.first.gone k stale)

pub tail-gone : (layout : Layout) (ckpt start k b : ℕ) (views : List BlockView) (tail : Option Tail) (old new : List ℕ) → layout.format ≢ One → IsLog layout ckpt start
    → IsTailIn layout ckpt tail → AreFoundIn layout old ckpt views tail → IsCleared layout ckpt start tail old new
    → IsTailPlace k → b % 512 ≡ 0 → start - 12 ≤ b → read_tail b (sector k new) ≡ None
tail-gone layout ckpt start k b views None old new format log is found cleared place aligned from =
    stale-unread layout ckpt start k b None old new log is cleared (record { format = format; place = place; not_taken = λ none. none })
tail-gone layout ckpt start k b views (Some tail) old new format log is found cleared place aligned from =
    let other : (k ≡ tail.which → ⊥) → read_tail b (sector k new) ≡ None = λ not_taken.
    stale-unread layout ckpt start k b (Some tail) old new log is cleared (record { format = format; place = place; not_taken = not_taken }) in
    ⊎_elim (λ less. other (λ same. omega arith))
    (λ not_less. ⊎_elim (λ more. other (λ same. omega arith))
    (λ not_more.
    let own : k ≡ tail.which = omega arith in
    ⊎_elim
    (λ before.
    let same : sector tail.which new ≡ header_block tail.which old =
    cleared.then.others tail.which (taken-not_past layout ckpt start tail log is before) ∙ cleared.first.others tail.which (λ stale. stale.not_taken refl) in
    ap (λ (j : ℕ). read_tail b (sector j new)) own ∙ ap (read_tail b) same
    ∙ tail-once tail.lsn b (header_block tail.which old) found.view is.in_round.aligned aligned (λ lsn. omega (arith, log.place, log.low)) found.fits)
    (λ past.
    ap (λ (j : ℕ). read_tail b (sector j new)) own
    ∙ unsealed-tail b (sector tail.which new) (cleared.then.gone tail.which (inr (inr (refl, past)))))
    (cases_lt tail.lsn (block_of start))) (cases_lt tail.which k)) (cases_lt k tail.which)

-- SO NONE IS TAKEN where the run starts.

pub none-taken : (format : Format) (shape : Shape) (most : ℕ) (ckpt start : ℕ) (views : List BlockView) (wholes : List Whole) (end : ℕ) (tail : Option Tail) (old new : List ℕ)
    → IsLog (layout_of format shape) ckpt start → IsTailIn (layout_of format shape) ckpt tail → start ≤ ckpt + 512 * length views + 12
    → IsScan shape most (taken (layout_of format shape) old) ckpt views wholes end → AreFoundIn (layout_of format shape) old ckpt views tail
    → IsCleared (layout_of format shape) ckpt start tail old new → taken (layout_of format shape) new (start - 12) ≡ None
none-taken One shape most ckpt start views wholes end tail old new log is among scan found cleared =
    taken-none_one (layout_of One shape) new (start - 12) refl
    (round-gone (layout_of One shape) ckpt start new log (gone-from One shape most ckpt start views wholes end tail old new log is among scan found cleared) (start - 12)
    (record { aligned = omega (arith, log.place); from = omega arith; below = omega (arith, log.is_layout.many_blocks) }))
none-taken Two shape most ckpt start views wholes end tail old new log is among scan found cleared =
    taken-none_two (layout_of Two shape) new (start - 12) refl
    (unread-full (start - 12) (log_block (layout_of Two shape) (start - 12) new)
    (round-gone (layout_of Two shape) ckpt start new log (gone-from Two shape most ckpt start views wholes end tail old new log is among scan found cleared) (start - 12)
    (record { aligned = omega (arith, log.place); from = omega arith; below = omega (arith, log.is_layout.many_blocks) })))
    (tail-gone (layout_of Two shape) ckpt start 4 (start - 12) views tail old new two-not_one log is found cleared (inl refl) (omega (arith, log.place)) (omega arith))
    (tail-gone (layout_of Two shape) ckpt start 5 (start - 12) views tail old new two-not_one log is found cleared (inr refl) (omega (arith, log.place)) (omega arith))
none-taken Three shape most ckpt start views wholes end tail old new log is among scan found cleared =
    taken-none_two (layout_of Three shape) new (start - 12) refl
    (unread-full (start - 12) (log_block (layout_of Three shape) (start - 12) new)
    (round-gone (layout_of Three shape) ckpt start new log (gone-from Three shape most ckpt start views wholes end tail old new log is among scan found cleared) (start - 12)
    (record { aligned = omega (arith, log.place); from = omega arith; below = omega (arith, log.is_layout.many_blocks) })))
    (tail-gone (layout_of Three shape) ckpt start 4 (start - 12) views tail old new two-not_one log is found cleared (inl refl) (omega (arith, log.place)) (omega arith))
    (tail-gone (layout_of Three shape) ckpt start 5 (start - 12) views tail old new two-not_one log is found cleared (inr refl) (omega (arith, log.place)) (omega arith))
