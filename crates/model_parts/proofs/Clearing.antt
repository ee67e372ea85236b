-- What clearing does to the sectors of a log device, in each format: which are as they were, and which are gone.
use Rattle.std.proofs.Common.{◌≡◌, ◌≢◌, ◌≤◌, ◌<◌, ◌+◌, ◌*◌, ◌/◌, ◌%◌, ◌-◌, ◌⊎◌, ℕ, zero, suc, inl, inr, List, length, take, drop, Option, Some, None, refl, sym, ap, subst, ◌∙◌, ⊎_elim, arith}
use Rattle.std.proofs.lemmas.Bool.{cases_lt}
use Rattle.model_base.specs.declared.shape.Shape.{Shape}
use Rattle.model_base.specs.declared.limits.TheConstants.{START_LSN}
use Rattle.model_log.specs.{block_of, fits_checksum, IsInRound, IsLayout, IsTailPlace, layout_of, log_block, lsn_at, place_in, ring_start, round_of, sector_of}
use Rattle.model_log.specs.declared.head.Format.{Format}
use Rattle.model_log.specs.declared.head.Format.TheVariants.{One, Two, Three}
use Rattle.model_log.specs.declared.layout.Layout.{Layout}
use Rattle.model_log.proofs.Places.{one-place_each, place-from, sector-place}
use Rattle.model_device.specs.{sector}
use Rattle.model_store.specs.declared.tail.Tail.{Tail}
use Rattle.model_parts.specs.Changes.{IsErased, IsErasing, IsUnsealed}
use Rattle.model_parts.specs.Cleared.{IsClearing, IsCleared, IsInKeptRange, IsOfTail, IsOutside, IsPastKept, IsStaleTail}
use Rattle.model_parts.proofs.Stages.{MayGo}

-- PLACES.

-- a block of the log is a sector
pub block-sector : (layout : Layout) (b : ℕ) (image : List ℕ) → log_block layout b image ≡ sector (sector_of layout b) image
unfolding log_block
block-sector layout b image = ap (λ (at : ℕ). take 512 (drop at image)) (sym (sector-place layout b))

pub ring-from : (layout : Layout) (b : ℕ) → layout.first ≤ sector_of layout b
ring-from layout b =
    let from : ring_start layout ≤ place_in layout b = place-from layout b in
    let place : 512 * sector_of layout b ≡ place_in layout b = sector-place layout b in
    omega arith

-- two blocks of one round that have one sector are one
pub one-sector : (layout : Layout) (ckpt b c : ℕ) → START_LSN ≤ ckpt → IsInRound layout ckpt b → IsInRound layout ckpt c → sector_of layout b ≡ sector_of layout c → b ≡ c
one-sector layout ckpt b c started b_in c_in same =
    one-place_each layout ckpt b c started b_in c_in (sym (sector-place layout b) ∙ ap (λ (k : ℕ). 512 * k) same ∙ sector-place layout c)

pub at-round : (layout : Layout) (ckpt i : ℕ) → ckpt % 512 ≡ 0 → i < layout.blocks → IsInRound layout ckpt (lsn_at ckpt i)
at-round layout ckpt i aligned below = record { aligned = omega arith; from = omega arith; below = omega arith }

-- in formats 2 and 3 the ring stands after the tail blocks
pub first-of : (format : Format) (shape : Shape) → (layout_of format shape).format ≢ One → (layout_of format shape).first ≡ 6
first-of One shape other = absurd (other refl)
first-of Two shape other = refl
first-of Three shape other = refl

-- a log that is read from the checkpoint on, and where the run starts after it
pub record IsLog (layout : Layout) (ckpt start : ℕ) : Type 0 where
  pub is_layout : IsLayout layout
  pub first : layout.format ≢ One → layout.first ≡ 6
  pub aligned : ckpt % 512 ≡ 0
  pub started : START_LSN ≤ ckpt
  pub place : start % 512 ≡ 12
  pub low : ckpt + 12 ≤ start
  pub high : start ≤ ckpt + round_of layout + 12

-- a tail block that was taken is one, and its block is in the round
pub record IsTailOf (layout : Layout) (ckpt : ℕ) (tail : Tail) : Type 0 where
  pub place : IsTailPlace tail.which
  pub before : layout.first ≡ 6
  pub in_round : IsInRound layout ckpt tail.lsn

abbrev pub IsTailIn : Layout → ℕ → Option Tail → Type 0
IsTailIn layout ckpt None = Unit {0}
IsTailIn layout ckpt (Some tail) = IsTailOf layout ckpt tail

-- the block of the lsn isn't the one that was taken from a tail block
abbrev pub IsOther : Option Tail → ℕ → Type 0
IsOther None b = Unit {0}
IsOther (Some tail) b = b ≢ tail.lsn

-- WHICH SECTORS AREN'T CLEARED.

pub header-not_stale : (layout : Layout) (tail : Option Tail) (k : ℕ) → k < 4 → IsStaleTail layout tail k → ⊥
header-not_stale layout tail k below stale = ⊎_elim (λ e. omega arith) (λ o. omega arith) stale.place

pub ring-not_stale : (layout : Layout) (ckpt start b : ℕ) (tail : Option Tail) → IsLog layout ckpt start → IsStaleTail layout tail (sector_of layout b) → ⊥
ring-not_stale layout ckpt start b tail log stale =
    let from : layout.first ≤ sector_of layout b = ring-from layout b in
    let first : layout.first ≡ 6 = log.first stale.format in
    ⊎_elim (λ e. omega arith) (λ o. omega arith) stale.place

-- a sector of the ring isn't one before it
ring-apart : (layout : Layout) (b k : ℕ) → k < layout.first → k ≡ sector_of layout b → ⊥
ring-apart layout b k below same = let from : layout.first ≤ sector_of layout b = ring-from layout b in omega arith

pub header-not_past : (layout : Layout) (ckpt start : ℕ) (tail : Option Tail) (k : ℕ) → IsLog layout ckpt start → IsTailIn layout ckpt tail → k < 4
    → IsPastKept layout ckpt start tail k → ⊥
header-not_past layout ckpt start None k log is below past =
    ⊎_elim (λ ring. ring-apart layout ring.0 k (omega (arith, log.is_layout.after_header)) ring.2) (λ none. none) past
header-not_past layout ckpt start (Some tail) k log is below past =
    ⊎_elim (λ ring. ring-apart layout ring.0 k (omega (arith, log.is_layout.after_header)) ring.2)
    (λ own. ⊎_elim (λ place. ring-apart layout tail.lsn k (omega (arith, log.is_layout.after_header)) place)
    (λ which. ⊎_elim (λ e. omega (arith, which.0)) (λ o. omega (arith, which.0)) is.place) own) past

-- a kept block's place isn't that of another block of the round
outside-apart : (layout : Layout) (ckpt start b c : ℕ) → IsLog layout ckpt start → IsInKeptRange layout ckpt start b → IsOutside layout ckpt start c → sector_of layout b ≡ sector_of layout c → ⊥
outside-apart layout ckpt start b c log kept outside same =
    let one : b ≡ c = one-sector layout ckpt b c log.started kept.in_round outside.in_round same in
    omega (arith, kept.before, outside.from)

pub kept-not_past : (layout : Layout) (ckpt start b : ℕ) (tail : Option Tail) → IsLog layout ckpt start → IsTailIn layout ckpt tail → IsInKeptRange layout ckpt start b → IsOther tail b
    → IsPastKept layout ckpt start tail (sector_of layout b) → ⊥
kept-not_past layout ckpt start b None log is kept other past =
    ⊎_elim (λ ring. outside-apart layout ckpt start b ring.0 log kept ring.1 ring.2) (λ none. none) past
kept-not_past layout ckpt start b (Some tail) log is kept other past =
    ⊎_elim (λ ring. outside-apart layout ckpt start b ring.0 log kept ring.1 ring.2)
    (λ own. ⊎_elim (λ place. other (one-sector layout ckpt b tail.lsn log.started kept.in_round is.in_round place))
    (λ which. (let from : layout.first ≤ sector_of layout b = ring-from layout b in
    ⊎_elim (λ e. omega (arith, which.0, is.before)) (λ o. omega (arith, which.0, is.before)) is.place)) own) past

-- a tail block that wasn't taken isn't cleared in the second stage
pub stale-not_past : (layout : Layout) (ckpt start k : ℕ) (tail : Option Tail) → IsLog layout ckpt start → IsTailIn layout ckpt tail → IsStaleTail layout tail k
    → IsPastKept layout ckpt start tail k → ⊥
stale-not_past layout ckpt start k None log is stale past =
    ⊎_elim (λ ring. ring-apart layout ring.0 k (⊎_elim (λ e. omega (arith, log.first stale.format)) (λ o. omega (arith, log.first stale.format)) stale.place) ring.2) (λ none. none) past
stale-not_past layout ckpt start k (Some tail) log is stale past =
    let before : k < layout.first = ⊎_elim (λ e. omega (arith, is.before)) (λ o. omega (arith, is.before)) stale.place in
    ⊎_elim (λ ring. ring-apart layout ring.0 k before ring.2)
    (λ own. ⊎_elim (λ place. ring-apart layout tail.lsn k before place) (λ which. stale.not_taken which.0) own) past

-- and the one that was taken isn't where its block is kept
pub taken-not_past : (layout : Layout) (ckpt start : ℕ) (tail : Tail) → IsLog layout ckpt start → IsTailOf layout ckpt tail → tail.lsn < block_of start
    → IsPastKept layout ckpt start (Some tail) tail.which → ⊥
taken-not_past layout ckpt start tail log is kept past =
    let before : tail.which < layout.first = ⊎_elim (λ e. omega (arith, is.before)) (λ o. omega (arith, is.before)) is.place in
    ⊎_elim (λ ring. ring-apart layout ring.0 tail.which before ring.2)
    (λ own. ⊎_elim (λ place. ring-apart layout tail.lsn tail.which before place) (λ which. omega (arith, which.1)) own) past

-- WHAT STANDS THERE.

pub goes : (Erased : ℕ → Type 0) (old new : List ℕ) (k : ℕ) → IsErasing Erased old new → MayGo (sector k old) (sector k new)
goes Erased old new k erasing = ⊎_elim (λ same. inl same) (λ gone. inr gone.1) (erasing.each k)

pub stays : (Erased : ℕ → Type 0) (old new : List ℕ) (k : ℕ) → IsErasing Erased old new → (Erased k → ⊥) → sector k new ≡ sector k old
stays Erased old new k erasing not_erased = ⊎_elim (λ same. same) (λ gone. absurd (not_erased gone.0)) (erasing.each k)

pub gone-on : (old new : List ℕ) → MayGo old new → IsUnsealed old → IsUnsealed new
gone-on old new may gone = ⊎_elim (λ same. ap fits_checksum same ∙ gone) (λ new_gone. new_gone) may

-- one after the other, where the first stage leaves the sector
pub goes-on : (First Then : ℕ → Type 0) (old middle new : List ℕ) (k : ℕ) → IsErased First old middle → IsErasing Then middle new → (First k → ⊥)
    → MayGo (sector k old) (sector k new)
goes-on First Then old middle new k first then not_first =
    ⊎_elim (λ same. inl (same ∙ first.others k not_first)) (λ gone. inr gone.1) (then.each k)

-- no header block is cleared, and the device is as long as before
pub clearing-header : (layout : Layout) (ckpt start : ℕ) (tail : Option Tail) (old new : List ℕ) (k : ℕ) → IsLog layout ckpt start → IsTailIn layout ckpt tail → k < 4
    → IsClearing layout ckpt start tail old new → sector k new ≡ sector k old
clearing-header layout ckpt start tail old new k log is below clearing =
    ⊎_elim (λ erasing. stays (IsStaleTail layout tail) old new k erasing (header-not_stale layout tail k below))
    (λ later. stays (IsPastKept layout ckpt start tail) later.0 new k later.2 (header-not_past layout ckpt start tail k log is below)
    ∙ later.1.others k (header-not_stale layout tail k below)) clearing

pub clearing-length : (layout : Layout) (ckpt start : ℕ) (tail : Option Tail) (old new : List ℕ) → IsClearing layout ckpt start tail old new → length new ≡ length old
clearing-length layout ckpt start tail old new clearing =
    ⊎_elim (λ erasing. erasing.same_length) (λ later. later.2.same_length ∙ later.1.same_length) clearing

-- WHAT IS CLEARED IS BEING CLEARED: which sectors that are can be told.

pub same-or_not : (a b : ℕ) → (a ≡ b) ⊎ (a ≢ b)
same-or_not a b = ⊎_elim (λ less. inr (λ same. absurd (omega arith)))
    (λ not_less. ⊎_elim (λ more. inr (λ same. absurd (omega arith))) (λ not_more. inl (omega arith)) (cases_lt b a)) (cases_lt a b)

-- one of the first n, or none of them
one-below : (P : ℕ → Type 0) → ((i : ℕ) → P i ⊎ (P i → ⊥)) → (n : ℕ) → ((i : ℕ) × (i < n) × P i) ⊎ ((i : ℕ) → i < n → P i → ⊥)
one-below P told zero = inr (λ i below is. omega arith)
one-below P told (suc n) =
    ⊎_elim (λ found. inl (found.0, omega (arith, found.1), found.2))
    (λ none. ⊎_elim (λ here. inl (n, omega arith, here))
    (λ not_here. inr (λ i below is. ⊎_elim (λ less. none i less is) (λ not_less. not_here (let same : i ≡ n = omega arith in subst P same is)) (cases_lt i n))) (told n))
    (one-below P told n)

ring-or_not : (layout : Layout) (ckpt start k : ℕ) → IsLog layout ckpt start
    → ((b : ℕ) × IsOutside layout ckpt start b × (k ≡ sector_of layout b)) ⊎ (((b : ℕ) × IsOutside layout ckpt start b × (k ≡ sector_of layout b)) → ⊥)
ring-or_not layout ckpt start k log =
    let P : ℕ → Type 0 = λ i. (block_of start ≤ lsn_at ckpt i) × (k ≡ sector_of layout (lsn_at ckpt i)) in
    let told : (i : ℕ) → P i ⊎ (P i → ⊥) = λ i.
    ⊎_elim (λ before. inr (λ is. omega (arith, is.0)))
    (λ from. ⊎_elim (λ same. inl (from, same)) (λ other. inr (λ is. other is.1)) (same-or_not k (sector_of layout (lsn_at ckpt i)))) (cases_lt (lsn_at ckpt i) (block_of start)) in
    ⊎_elim (λ found. inl (lsn_at ckpt found.0, record { in_round = at-round layout ckpt found.0 log.aligned found.1; from = found.2.0 }, found.2.1))
    (λ none. inr (λ is.
    let b : ℕ = is.0 in
    let i : ℕ = (b - ckpt) / 512 in
    let at : b ≡ lsn_at ckpt i = omega (arith, log.aligned, is.1.in_round.aligned, is.1.in_round.from) in
    none i (omega (arith, log.aligned, is.1.in_round.aligned, is.1.in_round.from, is.1.in_round.below)) (omega (arith, is.1.from), is.2 ∙ ap (sector_of layout) at)))
    (one-below P told layout.blocks)

tail-or_not : (layout : Layout) (start : ℕ) (tail : Option Tail) (k : ℕ) → IsOfTail layout start tail k ⊎ (IsOfTail layout start tail k → ⊥)
tail-or_not layout start None k = inr (λ none. none)
tail-or_not layout start (Some tail) k =
    ⊎_elim (λ place. inl (inl place))
    (λ not_place. ⊎_elim
    (λ which. ⊎_elim (λ before. inr (λ is. ⊎_elim not_place (λ own. omega (arith, own.1)) is)) (λ from. inl (inr (which, from))) (cases_lt tail.lsn (block_of start)))
    (λ other. inr (λ is. ⊎_elim not_place (λ own. other own.0) is))
    (same-or_not k tail.which)) (same-or_not k (sector_of layout tail.lsn))

past-or_not : (layout : Layout) (ckpt start : ℕ) (tail : Option Tail) (k : ℕ) → IsLog layout ckpt start
    → IsPastKept layout ckpt start tail k ⊎ (IsPastKept layout ckpt start tail k → ⊥)
past-or_not layout ckpt start tail k log =
    ⊎_elim (λ ring. inl (inl ring))
    (λ not_ring. ⊎_elim (λ own. inl (inr own)) (λ not_own. inr (λ is. ⊎_elim not_ring not_own is)) (tail-or_not layout start tail k))
    (ring-or_not layout ckpt start k log)

pub erased-erasing : (Erased : ℕ → Type 0) (old new : List ℕ) → ((k : ℕ) → Erased k ⊎ (Erased k → ⊥)) → IsErased Erased old new → IsErasing Erased old new
erased-erasing Erased old new told erased = record {
  same_length = erased.same_length;
  each = λ k. ⊎_elim (λ is. inr (is, erased.gone k is)) (λ not_is. inl (erased.others k not_is)) (told k);
}

pub cleared-clearing : (layout : Layout) (ckpt start : ℕ) (tail : Option Tail) (old new : List ℕ) → IsLog layout ckpt start → IsCleared layout ckpt start tail old new
    → IsClearing layout ckpt start tail old new
cleared-clearing layout ckpt start tail old new log cleared =
    inr (cleared.middle, cleared.first, erased-erasing (IsPastKept layout ckpt start tail) cleared.middle new (λ k. past-or_not layout ckpt start tail k log) cleared.then)
