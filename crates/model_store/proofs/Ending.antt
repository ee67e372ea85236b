-- Where the groups of a log start and end among its blocks.
use Rattle.std.proofs.Common.{◌≡◌, ◌≢◌, ◌&&◌, ◌≤◌, ◌<◌, ◌+◌, ◌-◌, ◌*◌, ◌%◌, ◌==◌, ℕ, zero, suc, Bool, true, false, cond, List, [], ◌∷◌, ◌++◌, length, drop, Option, Some, None, refl, sym, ap, subst, ◌∙◌, ⊎_elim, length-append, length-drop, arith}
use Rattle.std.specs.List.{slice_get}
use Rattle.std.proofs.lemmas.Bool.{cases_Bool, cases_lt}
use Rattle.std.proofs.lemmas.Bool.Decides.{nat_tests}
use Rattle.model_log.specs.declared.group.Whole.{Whole}
use Rattle.model_log.specs.{block_of, block_view, fits_checksum, fits_number, group_text, groups_of, is_block_at, is_first, is_length, IsDataLsn, IsRunOf, last_span_end, lsn_at, read_block, sn_of, spans_of, start_after, stream_of}
use Rattle.model_log.specs.declared.block.BlockView.{BlockView}
use Rattle.model_log.specs.declared.layout.TheConstants.{BLOCK_DATA}
use Rattle.model_log.proofs.Runs.{First, first-of, run-first, boundary-end, IsReached, boundary-reached, stream-none, stream-first, lsn-before}
use Rattle.model_log.proofs.BoundaryLengths.{sn_of-block, sn_of-header}
use Rattle.model_store.specs.Scan.{groups_start}

-- THE START AFTER AN END.

pub record StartsBehind (end : ℕ) : Type 0 where
  pub aligned : start_after end % 512 ≡ 12
  pub behind : end ≤ start_after end
  pub near : start_after end ≤ end + 512
  pub here : end % 512 ≡ 12 → start_after end ≡ end
  pub next : 12 < end % 512 → start_after end ≡ block_of end + 524

pub starts-behind : (end : ℕ) → IsDataLsn end → StartsBehind end
starts-behind end place =
    let low : 12 ≤ end % 512 = place.0 in
    let high : end % 512 < 508 = place.1 in
    ⊎_elim (λ here.
    let same : end % 512 ≡ 12 = grind (arith, nat_tests) in
    let is : start_after end ≡ end = ap (λ t. cond t end (block_of end + 512 + 12)) here in
    record { aligned = omega arith; behind = omega arith; near = omega arith; here = λ a. is; next = λ more. absurd (omega arith) })
    (λ later.
    let other : end % 512 ≢ 12 = grind (arith, nat_tests) in
    let is : start_after end ≡ block_of end + 512 + 12 = ap (λ t. cond t end (block_of end + 512 + 12)) later in
    record { aligned = omega arith; behind = omega arith; near = omega arith; here = λ a. absurd (other a); next = λ more. omega arith })
    (cases_Bool (end % 512 == 12))

-- THE END OF A RUN.

-- so many bytes of groups precede it
pub count-end : (s : ℕ) (wholes : List Whole) → IsDataLsn s → IsRunOf s wholes
    → sn_of (last_span_end s (spans_of wholes)) ≡ sn_of s + length (stream_of (groups_of wholes))
count-end s [] place run = omega (arith, ap length stream-none)
count-end s (whole ∷ wholes) place run =
    let first : First s whole = first-of s whole wholes place run in
    let others : sn_of (last_span_end whole.end (spans_of wholes)) ≡ sn_of whole.end + length (stream_of (groups_of wholes)) =
    count-end whole.end wholes first.place (run-first run).2 in
    omega (arith, first.count, ap length (stream-first whole wholes), length-append (group_text whole.group) (stream_of (groups_of wholes)))

-- WHERE A GROUP MAY START IN A BLOCK.

and-third : (a b c d : Bool) → (a && b && c && d) ≡ true → c ≡ true
and-third true true true d is = refl
and-third true true false d is = absurd cc
and-third true false c d is = absurd cc
and-third false b c d is = absurd cc

when-some : (t : Bool) (view found : BlockView) → cond t (Some view) None ≡ Some found → (t ≡ true) × (view ≡ found)
when-some true view found is = (refl, cc)
when-some false view found is = absurd cc

first-from : (len first : ℕ) → is_first len first ≡ true → first ≢ 0 → (12 ≤ first) × (first ≤ 507)
first-from len first test some =
    let low : 12 ≤ first = grind (arith, nat_tests) in
    let high : first ≤ 507 = grind (arith, nat_tests) in
    (low, high)

-- a block's first offset is past its header, and before its checksum
pub first-place : (lsn : ℕ) (bytes : List ℕ) (view : BlockView) → read_block lsn bytes ≡ Some view → view.first ≢ 0 → (12 ≤ view.first) × (view.first ≤ 507)
unfolding read_block is_block_at
first-place lsn bytes view is some =
    let found = when-some (is_block_at lsn bytes) (block_view bytes) view is in
    let test : is_first (block_view bytes).length (block_view bytes).first ≡ true =
    and-third (fits_number lsn bytes) (is_length (block_view bytes).length) (is_first (block_view bytes).length (block_view bytes).first) (fits_checksum bytes) found.0 in
    let first : (block_view bytes).first ≡ view.first = ap (λ (one : BlockView). one.first) found.1 in
    let own = first-from (block_view bytes).length (block_view bytes).first test (λ zero. some (sym first ∙ zero)) in
    (omega (arith, own.0), omega (arith, own.1))

-- the block in which groups start, and their offset in it
pub record StartsIn (lsn start : ℕ) (views : List BlockView) : Type 0 where
  pub i : ℕ
  pub view : BlockView
  pub at : slice_get views i ≡ Some view
  pub some : view.first ≢ 0
  pub is : start ≡ lsn_at lsn i + view.first

pub starts-in : (lsn start : ℕ) (views : List BlockView) → groups_start lsn views ≡ Some start → StartsIn lsn start views
starts-in lsn start [] is = absurd cc
starts-in lsn start (view ∷ views) is =
    let here : Bool → Option ℕ = λ t. cond t (groups_start (lsn + 512) views) (Some (lsn + view.first)) in
    ⊎_elim (λ none.
    let later : StartsIn (lsn + 512) start views = starts-in (lsn + 512) start views (sym (ap here none) ∙ is) in
    record { i = suc later.i; view = later.view; at = later.at; some = later.some; is = omega (arith, later.is) })
    (λ some.
    let found : Some (lsn + view.first) ≡ Some start = sym (ap here some) ∙ is in
    let same : lsn + view.first ≡ start = cc in
    record { i = 0; view = view; at = refl; some = λ zero. (let other : (view.first == 0) ≡ true = grind (arith, nat_tests) in absurd cc); is = omega arith }) (cases_Bool (view.first == 0))

-- the place where groups start is that of a byte
pub record IsGroupsStart (ckpt start : ℕ) (views : List BlockView) : Type 0 where
  pub i : ℕ
  pub below : i < length views
  pub place : IsDataLsn start
  pub from : lsn_at ckpt i + 12 ≤ start
  pub up_to : start ≤ lsn_at ckpt i + 507
  pub count : sn_of start ≤ sn_of ckpt + BLOCK_DATA * i + 495
  pub behind : sn_of ckpt ≤ sn_of start

pub within-list : {X : Type 0} (xs : List X) (i : ℕ) (x : X) → slice_get xs i ≡ Some x → i < length xs
within-list [] i x at = absurd cc
within-list (y ∷ xs) zero x at = omega arith
within-list (y ∷ xs) (suc i) x at = let later : i < length xs = within-list xs i x at in omega arith

sn_of-place : (b first : ℕ) → b % 512 ≡ 0 → 12 ≤ first → first ≤ 507 → sn_of (b + first) ≡ sn_of b + (first - 12)
sn_of-place b first aligned low high = grind (arith, nat_tests)

-- each first offset is past a block's header and before its checksum
abbrev pub AreFirstsIn : List BlockView → Type 0
AreFirstsIn views = (i : ℕ) (view : BlockView) → slice_get views i ≡ Some view → view.first ≢ 0 → (12 ≤ view.first) × (view.first ≤ 507)

pub starts-among : (ckpt start : ℕ) (views : List BlockView) → ckpt % 512 ≡ 0 → AreFirstsIn views → groups_start ckpt views ≡ Some start → IsGroupsStart ckpt start views
starts-among ckpt start views aligned firsts is =
    let found : StartsIn ckpt start views = starts-in ckpt start views is in
    let b : ℕ = lsn_at ckpt found.i in
    let own = firsts found.i found.view found.at found.some in
    let low : 12 ≤ found.view.first = own.0 in
    let high : found.view.first ≤ 507 = own.1 in
    let start_is : start ≡ b + found.view.first = found.is in
    let b_aligned : b % 512 ≡ 0 = omega arith in
    let counts : sn_of (b + found.view.first) ≡ sn_of b + (found.view.first - 12) = sn_of-place b found.view.first b_aligned low high in
    let blocks : sn_of b ≡ sn_of ckpt + BLOCK_DATA * found.i = sn_of-block ckpt found.i aligned in
    let same : sn_of start ≡ sn_of (b + found.view.first) = ap sn_of start_is in
    record {
      i = found.i;
      below = within-list views found.i found.view found.at;
      place = (omega arith, omega arith);
      from = omega arith;
      up_to = omega arith;
      count = omega arith;
      behind = omega arith;
    }

-- WHERE THE LOG ENDS.

pub record EndsWithin (ckpt end : ℕ) (views : List BlockView) : Type 0 where
  pub place : IsDataLsn end
  pub from : ckpt + 12 ≤ end
  pub up_to : end ≤ lsn_at ckpt (length views) + 12

-- where no group starts, at the first data byte of the block after those that were read
pub ends-behind : (ckpt end : ℕ) (views : List BlockView) → ckpt % 512 ≡ 0 → end ≡ lsn_at ckpt (length views) + 12 → EndsWithin ckpt end views
ends-behind ckpt end views aligned is = record { place = (omega arith, omega arith); from = omega arith; up_to = omega arith }

-- else there at the most
pub ends-among : (ckpt start end : ℕ) (views : List BlockView) (bytes : List ℕ) (wholes : List Whole) (rest : List ℕ) → ckpt % 512 ≡ 0
    → IsGroupsStart ckpt start views → length bytes ≤ BLOCK_DATA * length views → drop (sn_of start - sn_of ckpt) bytes ≡ stream_of (groups_of wholes) ++ rest
    → IsRunOf start wholes → end ≡ last_span_end start (spans_of wholes) → EndsWithin ckpt end views
ends-among ckpt start end views bytes wholes rest aligned starts short bytes_are run end_is =
    let reached : IsReached start wholes (last_span_end start (spans_of wholes)) =
    boundary-reached start wholes (last_span_end start (spans_of wholes)) starts.place run (boundary-end start (spans_of wholes)) in
    let stream : List ℕ = stream_of (groups_of wholes) in
    let skipped : ℕ = sn_of start - sn_of ckpt in
    let room : length stream ≤ length bytes - skipped =
    omega (arith, ap length bytes_are, length-drop skipped bytes, length-append stream rest) in
    let count : sn_of end ≡ sn_of start + length stream = ap sn_of end_is ∙ count-end start wholes starts.place run in
    let below : starts.i < length views = starts.below in
    let last : ℕ = lsn_at ckpt (length views) in
    let last_count : sn_of (last + 12) ≡ sn_of ckpt + BLOCK_DATA * length views =
    sn_of-header last (omega arith) ∙ sn_of-block ckpt (length views) aligned in
    let place : IsDataLsn end = subst IsDataLsn (sym end_is) reached.place in
    let last_place : IsDataLsn (last + 12) = (omega arith, omega arith) in
    let most : sn_of end ≤ sn_of (last + 12) = omega (arith, starts.count, starts.behind) in
    record {
      place = place;
      from = omega (arith, starts.from, reached.behind);
      up_to = lsn-before end (last + 12) place last_place most;
    }

-- so the start after it stands in that block at the most
pub start-within : (ckpt end : ℕ) (views : List BlockView) → ckpt % 512 ≡ 0 → EndsWithin ckpt end views → start_after end ≤ lsn_at ckpt (length views) + 12
start-within ckpt end views aligned ends =
    let start : StartsBehind end = starts-behind end ends.place in
    let low : 12 ≤ end % 512 = ends.place.0 in
    let high : end ≤ lsn_at ckpt (length views) + 12 = ends.up_to in
    ⊎_elim (λ next. omega (arith, start.next next)) (λ not_next. omega (arith, start.here (omega arith))) (cases_lt 12 (end % 512))
