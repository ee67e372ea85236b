-- The blocks that are read of a source from a block on.
use Rattle.std.proofs.Common.{◌≡◌, ◌≤◌, ◌<◌, ◌+◌, ◌-◌, ◌*◌, ◌%◌, ◌==◌, ◌⊎◌, ℕ, zero, suc, inl, inr, min, true, false, cond, List, [], ◌∷◌, ◌++◌, length, take, drop, Option, Some, None, refl, sym, ap, subst, ◌∙◌, ⊎_elim, arith}
use Rattle.std.specs.List.{slice_get, All, AllByRecursion}
use Rattle.model_base.specs.declared.limits.TheConstants.{LSN_LIMIT}
use Rattle.model_log.specs.{block_of, data_of, groups_of, is_full, IsAtDataStart, IsBoundary, IsBoundaryBlock, IsByte, IsDataLsn, IsRunOf, length_at, lsn_at, read_block, sn_of, spans_of, stream_between, stream_of}
use Rattle.std.proofs.lemmas.List.{append-nil, drop-drop}
use Rattle.std.proofs.lemmas.Bool.{cases_lt}
use Rattle.std.proofs.lemmas.Bool.Decides.{nat_tests}
use Rattle.model_base.specs.declared.shape.Shape.{Shape}
use Rattle.model_log.specs.declared.group.Whole.{Whole}
use Rattle.model_log.specs.declared.block.BlockView.{BlockView}
use Rattle.model_log.proofs.BoundaryLengths.{sn_of-rises, sn_of-start, sn_of-header, content_at-is}
use Rattle.model_log.proofs.Runs.{boundary-reached, data-start}
use Rattle.model_log.proofs.Crossings.{IsLeast, IsEmptyOf, TellsFirst, first-tells}
use Rattle.model_log.proofs.BoundaryRound.{ReadsAs, reads-as}
use Rattle.model_store.specs.{bytes_of, groups_start, IsStorable, joined, Source, Taken, taken_from, view_at}
use Rattle.std.specs.Option.{option_map}
use Rattle.model_store.proofs.Sources.{data_at, view-none}

-- a run whose groups fit the store, two of its boundaries in order, and the later one within the limit of all lsns
pub record IsBounded (shape : Shape) (s : ℕ) (wholes : List Whole) (low high : ℕ) : Type 0 where
  pub starts : IsAtDataStart s
  pub run : IsRunOf s wholes
  pub good : AllByRecursion (IsStorable shape) (groups_of wholes)
  pub bytes : All IsByte (stream_of (groups_of wholes))
  pub low_is : IsBoundary s (spans_of wholes) low
  pub high_is : IsBoundary s (spans_of wholes) high
  pub low_high : low ≤ high
  pub small : high ≤ LSN_LIMIT

-- The scan takes at b the block for a boundary between the marks, which holds a byte below it.
pub record IsTakenBetween (s : ℕ) (wholes : List Whole) (low high b : ℕ) (found : Option Taken) : Type 0 where
  pub mark : ℕ
  pub boundary : IsBoundary s (spans_of wholes) mark
  pub from : low ≤ mark
  pub up_to : mark ≤ high
  pub some : b + 12 < mark
  pub bytes : List ℕ
  pub block : IsBoundaryBlock s wholes mark b bytes
  pub is : found ≡ taken_from bytes (read_block b bytes)

-- It takes none, and none is missed.
pub record IsNoneTaken (low b : ℕ) (found : Option Taken) : Type 0 where
  pub none_below : low ≤ b + 12
  pub none : found ≡ None

abbrev pub IsTaken : ℕ → List Whole → ℕ → ℕ → ℕ → Option Taken → Type 0
IsTaken s wholes low high b found = IsTakenBetween s wholes low high b found ⊎ IsNoneTaken low b found

-- why the row ends
abbrev pub EndsRow : Source → ℕ → List BlockView → Type 0
EndsRow source b views =
    ((view : BlockView) × (i : ℕ) × (suc i ≡ length views) × (slice_get views i ≡ Some view) × (is_full view ≡ false))
    ⊎ (view_at source (lsn_at b (length views)) ≡ None)

-- where the groups of the row start: at the first boundary from its first block on; or there is none before its end
abbrev pub StartsRow : ℕ → List Whole → ℕ → ℕ → ℕ → Option ℕ → Type 0
StartsRow s wholes b end count None =
    (end ≡ lsn_at b count + 12) × ((n : ℕ) → IsBoundary s (spans_of wholes) n → b ≤ n → end ≤ n)
StartsRow s wholes b end count (Some start) = IsLeast s wholes b start × (start ≤ end)

-- The blocks that are read from b on, and where their data ends.
pub record Row (s : ℕ) (wholes : List Whole) (low high : ℕ) (source : Source) (fuel b : ℕ) : Type 0 where
  pub views : List BlockView
  pub end : ℕ
  pub few : length views ≤ fuel
  pub each : (i : ℕ) (view : BlockView) → slice_get views i ≡ Some view → view_at source (lsn_at b i) ≡ Some view
  pub full : (i : ℕ) (view : BlockView) → suc i < length views → slice_get views i ≡ Some view → is_full view ≡ true
  pub last : EndsRow source b views
  pub content : joined source b views ≡ stream_between s (stream_of (groups_of wholes)) b end
  pub place : IsDataLsn end
  pub from : b + 12 ≤ end
  pub low_end : low ≤ end
  pub end_high : end ≤ high
  pub starts : StartsRow s wholes b end (length views) (groups_start b views)

none-more : (n k : ℕ) → take {A = ℕ} n [] ≡ take k []
none-more zero zero = refl
none-more zero (suc k) = refl
none-more (suc n) zero = refl
none-more (suc n) (suc k) = refl

-- two pieces of the stream, side by side
take-both : (m n : ℕ) (xs : List ℕ) → take m xs ++ take n (drop m xs) ≡ take (m + n) xs
take-both zero n xs = let same : 0 + n ≡ n = omega arith in ap (λ k. take k xs) (sym same)
take-both (suc m) n [] = none-more n (suc m + n)
take-both (suc m) n (x ∷ xs) =
    let same : suc m + n ≡ suc (m + n) = omega arith in
    ap (λ ys. x ∷ ys) (take-both m n xs) ∙ ap (λ k. take k (x ∷ xs)) (sym same)

pub pieces-join : (s : ℕ) (stream : List ℕ) (low mid high : ℕ) → sn_of s ≤ sn_of low → sn_of low ≤ sn_of mid → sn_of mid ≤ sn_of high
    → stream_between s stream low mid ++ stream_between s stream mid high ≡ stream_between s stream low high
unfolding stream_between
pieces-join s stream low mid high first second third =
    let a : ℕ = sn_of mid - sn_of low in
    let c : ℕ = sn_of high - sn_of mid in
    let from : sn_of mid - sn_of s ≡ (sn_of low - sn_of s) + a = omega arith in
    let all : a + c ≡ sn_of high - sn_of low = omega arith in
    let rest : List ℕ = drop (sn_of low - sn_of s) stream in
    ap (λ n. take a rest ++ take c (drop n stream)) from
    ∙ ap (λ (bytes : List ℕ). take a rest ++ take c bytes) (sym (drop-drop a (sn_of low - sn_of s) stream))
    ∙ take-both a c rest
    ∙ ap (λ n. take n rest) all

-- no byte of the stream stands in a block's header
none-between : (s : ℕ) (stream : List ℕ) (b : ℕ) → b % 512 ≡ 0 → [] ≡ stream_between s stream b (b + 12)
unfolding stream_between
none-between s stream b aligned =
    let count : sn_of (b + 12) - sn_of b ≡ 0 = omega (arith, sn_of-header b aligned) in
    ap (λ n. take n (drop (sn_of b - sn_of s) stream)) (sym count)

-- what the scan takes at the lsn, where a block is read there and where none is
view-read : (source : Source) (b : ℕ) (view : BlockView) (bytes : List ℕ) → source b ≡ taken_from bytes (read_block b bytes) → read_block b bytes ≡ Some view
    → (view_at source b ≡ Some view) × (data_at source b ≡ data_of view bytes)
view-read source b view bytes taken read =
    let is : source b ≡ Some (record { view = view; bytes = data_of view bytes }) = taken ∙ ap (taken_from bytes) read in
    (ap (option_map (λ (block : Taken). block.view)) is, ap bytes_of is)

length-full : (m b : ℕ) → b + 524 ≤ m → (length_at m b == 512) ≡ true
length-full m b full = grind (arith, nat_tests)

length-part : (m b : ℕ) → b + 12 < m → m < b + 508 → (length_at m b == 512) ≡ false
length-part m b some part = grind (arith, nat_tests)

within-block : (m b : ℕ) → IsDataLsn m → b % 512 ≡ 0 → b + 12 < m → m < b + 524 → m < b + 508
within-block m b place aligned some part = omega arith

first-none : (first lsn : ℕ) (others : Option ℕ) → first ≡ 0 → cond (first == 0) others (Some lsn) ≡ others
first-none first lsn others none = ap (λ f. cond (f == 0) others (Some lsn)) none

first-some : (first lsn : ℕ) (others : Option ℕ) → 12 ≤ first → cond (first == 0) others (Some lsn) ≡ Some lsn
first-some first lsn others some =
    let test : (first == 0) ≡ false = grind (arith, nat_tests) in ap (λ t. cond t others (Some lsn)) test

no-place : (i : ℕ) (view : BlockView) → slice_get [] i ≡ Some view → ⊥
no-place zero view is = cc
no-place (suc i) view is = cc

one-place : (view other : BlockView) (i : ℕ) → slice_get (view ∷ []) i ≡ Some other → (i ≡ 0) × (other ≡ view)
one-place view other zero is = (refl, cc)
one-place view other (suc i) is = absurd (no-place i other is)

-- no block is read at all
row-none : (shape : Shape) (s : ℕ) (wholes : List Whole) (low high : ℕ) (source : Source) (fuel b : ℕ) → b % 512 ≡ 0 → b + 12 ≤ high
    → IsBounded shape s wholes low high → IsNoneTaken low b (source b) → Row s wholes low high source fuel b
row-none shape s wholes low high source fuel b aligned within run none =
    let same : lsn_at b 0 ≡ b = omega arith in
    record {
      views = [];
      end = b + 12;
      few = omega arith;
      each = λ i view is. absurd (no-place i view is);
      full = λ i view below is. absurd (omega arith);
      last = inr (ap (view_at source) same ∙ view-none source b none.none);
      content = none-between s (stream_of (groups_of wholes)) b aligned;
      place = (omega arith, omega arith);
      from = omega arith;
      low_end = none.none_below;
      end_high = within;
      starts = (omega arith, λ n is from. let after = boundary-reached s wholes n (data-start s run.starts) run.run is in omega (arith, after.place));
    }

-- the block at b is read, and isn't full
row-part : (shape : Shape) (s : ℕ) (wholes : List Whole) (low high : ℕ) (source : Source) (fuel b : ℕ) → b % 512 ≡ 0 → block_of s ≤ b → 1 ≤ fuel
    → IsBounded shape s wholes low high → (block : IsTakenBetween s wholes low high b (source b)) → block.mark < b + 524
    → Row s wholes low high source fuel b
row-part shape s wholes low high source fuel b aligned from some run block short =
    let m : ℕ = block.mark in
    let bytes : List ℕ = block.bytes in
    let reads : ReadsAs s wholes m b bytes = reads-as s wholes m b bytes run.starts run.run run.bytes block.boundary block.some block.block in
    let after = boundary-reached s wholes m (data-start s run.starts) run.run block.boundary in
    let inside : m < b + 508 = within-block m b after.place aligned block.some short in
    let low_m : min m (b + 512) ≡ m = omega arith in
    let taken_is = view-read source b reads.view bytes block.is reads.read in
    let read : view_at source b ≡ Some reads.view = taken_is.0 in
    let part : is_full reads.view ≡ false = ap (λ (n : ℕ). n == 512) reads.length_is ∙ length-part m b block.some inside in
    let tells : TellsFirst s wholes b reads.view.first = subst (λ (f : ℕ). TellsFirst s wholes b f) (sym reads.first_is) (first-tells s wholes b run.starts run.run aligned from) in
    record {
      views = reads.view ∷ [];
      end = m;
      few = omega arith;
      each = λ i view is. (
          let here = one-place reads.view view i is in
          let same : lsn_at b i ≡ b = omega (arith, here.0) in
          ap (view_at source) same ∙ read ∙ ap (λ (v : BlockView). Some v) (sym here.1));
      full = λ i view below is. absurd (omega arith);
      last = inl (reads.view, 0, refl, refl, part);
      content = append-nil (data_at source b) ∙ taken_is.1 ∙ reads.content ∙ content_at-is s (stream_of (groups_of wholes)) m b ∙ ap (λ n. stream_between s (stream_of (groups_of wholes)) b n) low_m;
      place = after.place;
      from = omega (arith, block.some);
      low_end = block.from;
      end_high = block.up_to;
      starts = ⊎_elim (λ none. let late : b + 512 ≤ m = none.1.none m block.boundary (omega (arith, block.some)) in absurd (omega arith))
          (λ starts.
          let least : b + reads.view.first ≤ m = starts.least.least m block.boundary (omega (arith, block.some)) in
          subst (λ (o : Option ℕ). StartsRow s wholes b m 1 o) (sym (first-some reads.view.first (b + reads.view.first) None starts.some)) (starts.least, least)) tells;
    }

-- the row goes on after a full block
starts-more : (s : ℕ) (wholes : List Whole) (b end count : ℕ) (found : Option ℕ) → IsEmptyOf s wholes b
    → StartsRow s wholes (b + 512) end count found → StartsRow s wholes b end (suc count) found
starts-more s wholes b end count None empty (at, none) = (omega arith, λ n is from. none n is (empty.none n is from))
starts-more s wholes b end count (Some start) empty (least, low) = (
  record {
    boundary = least.boundary;
    from = omega (arith, least.from);
    least = λ n is from. least.least n is (empty.none n is from);
  },
  low,
)

each-more : (source : Source) (b : ℕ) (first : BlockView) (views : List BlockView) → view_at source b ≡ Some first
    → ((i : ℕ) (view : BlockView) → slice_get views i ≡ Some view → view_at source (lsn_at (b + 512) i) ≡ Some view)
    → (i : ℕ) (view : BlockView) → slice_get (first ∷ views) i ≡ Some view → view_at source (lsn_at b i) ≡ Some view
each-more source b first views read each zero view is =
    let same : lsn_at b 0 ≡ b = omega arith in ap (view_at source) same ∙ read ∙ is
each-more source b first views read each (suc i) view is =
    let same : lsn_at b (suc i) ≡ lsn_at (b + 512) i = omega arith in ap (view_at source) same ∙ each i view is

full-more : (first : BlockView) (views : List BlockView) → is_full first ≡ true
    → ((i : ℕ) (view : BlockView) → suc i < length views → slice_get views i ≡ Some view → is_full view ≡ true)
    → (i : ℕ) (view : BlockView) → suc i < length (first ∷ views) → slice_get (first ∷ views) i ≡ Some view → is_full view ≡ true
full-more first views is each zero view below at = let same : first ≡ view = cc in ap is_full (sym same) ∙ is
full-more first views is each (suc i) view below at = each i view (omega arith) at

ends-more : (source : Source) (b : ℕ) (first : BlockView) (views : List BlockView) → EndsRow source (b + 512) views → EndsRow source b (first ∷ views)
ends-more source b first views ends =
    elim ends [
      | inl (view, i, at, is, part) ↦ inl (view, suc i, ap suc at, is, part)
      | inr none ↦ (let same : lsn_at b (length (first ∷ views)) ≡ lsn_at (b + 512) (length views) = omega arith in inr (ap (view_at source) same ∙ none))
    ]

row-full : (shape : Shape) (s : ℕ) (wholes : List Whole) (low high : ℕ) (source : Source) (fuel b : ℕ) → b % 512 ≡ 0 → block_of s ≤ b
    → IsBounded shape s wholes low high → (block : IsTakenBetween s wholes low high b (source b)) → b + 524 ≤ block.mark
    → Row s wholes low high source fuel (b + 512) → Row s wholes low high source (suc fuel) b
row-full shape s wholes low high source fuel b aligned from run block long rest =
    let m : ℕ = block.mark in
    let bytes : List ℕ = block.bytes in
    let reads : ReadsAs s wholes m b bytes = reads-as s wholes m b bytes run.starts run.run run.bytes block.boundary block.some block.block in
    let high_m : min m (b + 512) ≡ b + 512 = omega arith in
    let taken_is = view-read source b reads.view bytes block.is reads.read in
    let read : view_at source b ≡ Some reads.view = taken_is.0 in
    let whole : is_full reads.view ≡ true = ap (λ (n : ℕ). n == 512) reads.length_is ∙ length-full m b long in
    let tells : TellsFirst s wholes b reads.view.first = subst (λ (f : ℕ). TellsFirst s wholes b f) (sym reads.first_is) (first-tells s wholes b run.starts run.run aligned from) in
    let others : Option ℕ = groups_start (b + 512) rest.views in
    record {
      views = reads.view ∷ rest.views;
      end = rest.end;
      few = omega (arith, rest.few);
      each = each-more source b reads.view rest.views read rest.each;
      full = full-more reads.view rest.views whole rest.full;
      last = ends-more source b reads.view rest.views rest.last;
      content = ap (λ (bytes : List ℕ). bytes ++ joined source (b + 512) rest.views) (taken_is.1 ∙ reads.content ∙ content_at-is s (stream_of (groups_of wholes)) m b ∙ ap (λ n. stream_between s (stream_of (groups_of wholes)) b n) high_m)
          ∙ ap (λ (more : List ℕ). stream_between s (stream_of (groups_of wholes)) b (b + 512) ++ more) rest.content
          ∙ pieces-join s (stream_of (groups_of wholes)) b (b + 512) rest.end (sn_of-start s b run.starts from) (sn_of-rises b (b + 512) (omega arith)) (sn_of-rises (b + 512) rest.end (omega (arith, rest.from)));
      place = rest.place;
      from = omega (arith, rest.from);
      low_end = rest.low_end;
      end_high = rest.end_high;
      starts = ⊎_elim (λ none. subst (λ (o : Option ℕ). StartsRow s wholes b rest.end (suc (length rest.views)) o)
          (sym (first-none reads.view.first (b + reads.view.first) others none.0))
          (starts-more s wholes b rest.end (length rest.views) others none.1 rest.starts))
          (λ starts. subst (λ (o : Option ℕ). StartsRow s wholes b rest.end (suc (length rest.views)) o)
          (sym (first-some reads.view.first (b + reads.view.first) others starts.some))
          (starts.least, omega (arith, starts.inside, rest.from))) tells;
    }

pub row-from : (shape : Shape) (s : ℕ) (wholes : List Whole) (low high : ℕ) (source : Source) (fuel b : ℕ) → b % 512 ≡ 0 → block_of s ≤ b
    → b + 12 ≤ high → high ≤ b + 512 * fuel → IsBounded shape s wholes low high
    → ((c : ℕ) → c % 512 ≡ 0 → b ≤ c → c < b + 512 * fuel → IsTaken s wholes low high c (source c))
    → Row s wholes low high source fuel b
row-from shape s wholes low high source zero b aligned from within room run each = absurd (omega arith)
row-from shape s wholes low high source (suc fuel) b aligned from within room run each =
    ⊎_elim (λ block. ⊎_elim (λ short. row-part shape s wholes low high source (suc fuel) b aligned from (omega arith) run block short)
    (λ long. row-full shape s wholes low high source fuel b aligned from run block long
    (row-from shape s wholes low high source fuel (b + 512) (omega arith) (omega arith) (omega (arith, block.up_to)) (omega arith) run
    (λ c aligned from below. each c aligned (omega arith) (omega arith))))
    (cases_lt block.mark (b + 524)))
    (λ none. row-none shape s wholes low high source (suc fuel) b aligned within run none)
    (each b aligned (omega arith) (omega arith))
