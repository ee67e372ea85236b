-- The scan of a source that gives less from some lsn on: it ends where it ended, with the same groups.
use Rattle.std.proofs.Common.{◌≡◌, ◌≤◌, ◌<◌, ◌+◌, ◌-◌, ◌*◌, ◌/◌, ◌%◌, ◌⊎◌, ℕ, zero, suc, inl, inr, true, List, [], ◌∷◌, ◌++◌, length, take, drop, Option, Some, None, refl, sym, ap, subst, ◌∙◌, ⊎_elim, append_assoc, length-append, length-take, length-drop, arith}
use Rattle.std.specs.List.{slice_get, AllByRecursion}
use Rattle.std.proofs.lemmas.Bool.{cases_lt}
use Rattle.std.proofs.lemmas.List.{take-append-drop, drop-append-le, take-append-le, nil_from_length, take_all}
use Rattle.model_base.specs.declared.shape.Shape.{Shape}
use Rattle.model_log.specs.declared.group.Whole.{Whole}
use Rattle.model_log.specs.{block_of, groups_of, is_full, IsDataLsn, IsFront, IsRunOf, last_span_end, lsn_at, sn_of, spans_of, start_after, stream_of}
use Rattle.model_log.specs.declared.block.BlockView.{BlockView}
use Rattle.model_log.specs.declared.layout.TheConstants.{BLOCK_DATA}
use Rattle.model_log.proofs.Runs.{First, first-of, run-first, boundary-start, boundary-before_end}
use Rattle.model_log.proofs.BoundaryLengths.{sn_of-rises, sn_of-block, sn_of-header}
use Rattle.model_store.specs.{AreGroups, AreGroupsOf, data_from, groups_start, IsLastOf, IsScan, IsStorable, joined, Source, view_at}
use Rattle.model_parts.proofs.Splits.{first-ends}
use Rattle.model_store.proofs.Sources.{AreTaken, ends-within, groups-start, IsSoundSource, joined-append, joined-full, same-joined, same-view, starts-back, starts-front, view-none}
use Rattle.model_store.proofs.Ending.{StartsBehind, starts-behind, count-end, IsGroupsStart, EndsWithin, start-within, within-list}

-- LISTS.

get-front : {X : Type 0} (front back : List X) (i : ℕ) (x : X) → slice_get front i ≡ Some x → slice_get (front ++ back) i ≡ Some x
get-front [] back i x at = absurd cc
get-front (y ∷ front) back zero x at = at
get-front (y ∷ front) back (suc i) x at = get-front front back i x at

get-back : {X : Type 0} (front back : List X) (i : ℕ) → slice_get (front ++ back) (length front + i) ≡ slice_get back i
get-back [] back i = let same : 0 + i ≡ i = omega arith in ap (slice_get back) same
get-back (y ∷ front) back i = let next : suc (length front) + i ≡ suc (length front + i) = omega arith in ap (slice_get (y ∷ (front ++ back))) next ∙ get-back front back i

-- two cuts of one list, of which the first is the longer
pub cut-front : (a b c d : List ℕ) → a ++ b ≡ c ++ d → length c ≤ length a → (a ≡ c ++ drop (length c) a) × (d ≡ drop (length c) a ++ b)
cut-front a b c d same short =
    let front : take (length c) a ≡ c =
    sym (take-append-le (length c) a b short) ∙ ap (take (length c)) same ∙ take-append-le (length c) c d (omega arith) ∙ take_all (length c) c (omega arith) in
    let all : a ≡ c ++ drop (length c) a = sym (take-append-drop (length c) a) ∙ ap (λ (xs : List ℕ). xs ++ drop (length c) a) front in
    let behind : drop (length c) (c ++ d) ≡ d = drop-append-le (length c) c d (omega arith)
    ∙ ap (λ (xs : List ℕ). xs ++ d) (nil_from_length (drop (length c) c) (omega (arith, length-drop (length c) c))) in
    (all, sym behind ∙ sym (ap (drop (length c)) same) ∙ drop-append-le (length c) a b short)

-- a front of less than a whole group is less than one
pub front-shorter : (bytes more : List ℕ) → IsFront (bytes ++ more) → IsFront bytes
front-shorter bytes more (short, (tail, group, some, text)) = (
  omega (arith, length-append bytes more),
  (
    more ++ tail,
    group,
    (λ none. some (nil_from_length tail (omega (arith, ap length none, length-append more tail)))),
    record { is_group = text.is_group; spelled = sym (append_assoc bytes more tail) ∙ text.spelled },
  ),
)

-- A SOURCE THAT GIVES LESS.

-- Of the blocks from the checkpoint's on, up to the one after the n that were read, those before the start's are taken as
-- before, and each other one as before or not at all.
pub record Drops (n most ckpt start : ℕ) (old new : Source) : Type 0 where
  pub kept : (i : ℕ) → i < n → i < most → lsn_at ckpt i < block_of start → new (lsn_at ckpt i) ≡ old (lsn_at ckpt i)
  pub dropped : (i : ℕ) → i ≤ n → i < most → block_of start ≤ lsn_at ckpt i
      → (new (lsn_at ckpt i) ≡ old (lsn_at ckpt i)) ⊎ (new (lsn_at ckpt i) ≡ None)

-- HOW FAR BLOCKS STAY.

record StaysTo (ckpt k n : ℕ) (old new : Source) : Type 0 where
  m : ℕ
  low : k ≤ m
  high : m ≤ n
  same : (i : ℕ) → i < m → new (lsn_at ckpt i) ≡ old (lsn_at ckpt i)
  ends : (m ≡ n) ⊎ ((m < n) × (view_at new (lsn_at ckpt m) ≡ None))

below-next : (P : ℕ → Type 0) (k : ℕ) → ((i : ℕ) → i < k → P i) → P k → (i : ℕ) → i < suc k → P i
below-next P k below here i less = ⊎_elim (λ under. below i under) (λ not_under. (let same : k ≡ i = omega arith in subst P same here)) (cases_lt i k)

stays-to : (ckpt k n fuel : ℕ) (old new : Source) → k + fuel ≡ n
    → ((i : ℕ) → i < k → new (lsn_at ckpt i) ≡ old (lsn_at ckpt i))
    → ((i : ℕ) → k ≤ i → i < n → (new (lsn_at ckpt i) ≡ old (lsn_at ckpt i)) ⊎ (view_at new (lsn_at ckpt i) ≡ None))
    → StaysTo ckpt k n old new
stays-to ckpt k n zero old new all below next =
    record { m = k; low = omega arith; high = omega arith; same = below; ends = inl (omega arith) }
stays-to ckpt k n (suc fuel) old new all below next =
    ⊎_elim (λ same.
    let later : StaysTo ckpt (suc k) n old new = stays-to ckpt (suc k) n fuel old new (omega arith)
    (below-next (λ i. new (lsn_at ckpt i) ≡ old (lsn_at ckpt i)) k below same)
    (λ i from under. next i (omega arith) under) in
    record { m = later.m; low = omega (arith, later.low); high = later.high; same = later.same; ends = later.ends })
    (λ none. record { m = k; low = omega arith; high = omega arith; same = below; ends = inr (omega arith, none) })
    (next k (omega arith) (omega arith))

-- THE SCAN.

-- the log is scanned again with the same groups, up to the same end
pub record Rescans (shape : Shape) (most ckpt : ℕ) (wholes : List Whole) (end : ℕ) (source : Source) : Type 0 where
  pub views : List BlockView
  pub scan : IsScan shape most source ckpt views wholes end

-- the same data holds the same groups
same-groups : (shape : Shape) (old new : Source) (ckpt : ℕ) (views : List BlockView) (start : Option ℕ) (wholes : List Whole) (end : ℕ)
    → joined new ckpt views ≡ joined old ckpt views → AreGroupsOf shape old ckpt views start wholes end → AreGroupsOf shape new ckpt views start wholes end
same-groups shape old new ckpt views None wholes end same groups = groups
same-groups shape old new ckpt views (Some start) wholes end same (rest, groups, front, at) =
    (rest, record { bytes_are = ap (drop (sn_of start - sn_of ckpt)) same ∙ groups.bytes_are; run = groups.run; each = groups.each }, front, at)

-- where all blocks stay that were read
stay-last : (most : ℕ) (old new : Source) (ckpt : ℕ) (views : List BlockView)
    → ((length views < most) → (new (lsn_at ckpt (length views)) ≡ old (lsn_at ckpt (length views))) ⊎ (view_at new (lsn_at ckpt (length views)) ≡ None))
    → length views ≤ most → IsLastOf most old ckpt views → IsLastOf most new ckpt views
stay-last most old new ckpt views next few is =
    ⊎_elim (λ all. inl all) (λ other. ⊎_elim (λ part. inr (inl part)) (λ none.
    ⊎_elim (λ less. ⊎_elim (λ same. inr (inr (same-view old new (lsn_at ckpt (length views)) same ∙ none))) (λ gone. inr (inr gone)) (next less))
    (λ not_less. inl (omega arith)) (cases_lt (length views) most)) other) is

-- a run of groups that ends where it starts has none
none-between : (shape : Shape) (start : ℕ) (wholes : List Whole) → IsDataLsn start → IsRunOf start wholes → AllByRecursion (IsStorable shape) (groups_of wholes)
    → last_span_end start (spans_of wholes) ≤ start → wholes ≡ []
none-between shape start [] place run each same = refl
none-between shape start (whole ∷ wholes) place run each same =
    let first : First start whole = first-of start whole wholes place run in
    let rises : start < whole.end = first-ends shape start whole place first each.0 in
    let others : whole.end ≤ last_span_end whole.end (spans_of wholes) =
    boundary-before_end whole.end wholes whole.end first.place (run-first run).2 (boundary-start whole.end (spans_of wholes)) in
    absurd (omega arith)

-- the row, cut short in full blocks
record Cut (shape : Shape) (old : Source) (ckpt : ℕ) (front back : List BlockView) (wholes : List Whole) (end : ℕ) : Type 0 where
  aligned : ckpt % 512 ≡ 0
  sound : IsSoundSource old
  taken : AreTaken old ckpt (front ++ back)
  long : length (joined old ckpt front) ≡ BLOCK_DATA * length front
  some : 1 ≤ length back
  groups : AreGroupsOf shape old ckpt (front ++ back) (groups_start ckpt (front ++ back)) wholes end
  ends : EndsWithin ckpt end (front ++ back)
  reaches : end ≤ lsn_at ckpt (length front) + 12

cut-found : (shape : Shape) (old : Source) (ckpt start : ℕ) (front back : List BlockView) (wholes : List Whole) (end : ℕ) → Cut shape old ckpt front back wholes end
    → groups_start ckpt front ≡ Some start → AreGroupsOf shape old ckpt front (Some start) wholes end
cut-found shape old ckpt start front back wholes end cut found =
    let both : groups_start ckpt (front ++ back) ≡ Some start = starts-front ckpt start front back found in
    let all : AreGroupsOf shape old ckpt (front ++ back) (Some start) wholes end =
    subst (λ (o : Option ℕ). AreGroupsOf shape old ckpt (front ++ back) o wholes end) both cut.groups in
    let groups : AreGroups shape (data_from old ckpt (front ++ back) start) start wholes all.0 = all.1 in
    let taken_front : AreTaken old ckpt front = λ i view at. cut.taken i view (get-front front back i view at) in
    let starts : IsGroupsStart ckpt start front = groups-start old ckpt start front cut.sound cut.aligned taken_front found in
    let skipped : ℕ = sn_of start - sn_of ckpt in
    let head : List ℕ = joined old ckpt front in
    let tail : List ℕ = joined old (lsn_at ckpt (length front)) back in
    let stream : List ℕ = stream_of (groups_of wholes) in
    let head_long : length head ≡ BLOCK_DATA * length front = cut.long in
    let within : skipped ≤ length head = omega (arith, starts.count, starts.below, starts.behind) in
    let data_is : data_from old ckpt (front ++ back) start ≡ drop skipped head ++ tail =
    ap (drop skipped) (joined-append old ckpt front back) ∙ drop-append-le skipped head tail within in
    let bytes : drop skipped head ++ tail ≡ stream ++ all.0 = sym data_is ∙ groups.bytes_are in
    let end_is : end ≡ last_span_end start (spans_of wholes) = all.3 in
    let count : sn_of end ≡ sn_of start + length stream = ap sn_of end_is ∙ count-end start wholes starts.place groups.run in
    let last : ℕ = lsn_at ckpt (length front) in
    let last_count : sn_of (last + 12) ≡ sn_of ckpt + BLOCK_DATA * length front =
    sn_of-header last (omega (arith, cut.aligned)) ∙ sn_of-block ckpt (length front) cut.aligned in
    let most : sn_of end ≤ sn_of (last + 12) = sn_of-rises end (last + 12) cut.reaches in
    let short : length stream ≤ length (drop skipped head) = omega (arith, length-drop skipped head, starts.behind) in
    let cuts = cut-front (drop skipped head) tail stream all.0 bytes short in
    let rest : List ℕ = drop (length stream) (drop skipped head) in (
      rest,
      record { bytes_are = cuts.0; run = groups.run; each = groups.each },
      front-shorter rest tail (subst IsFront cuts.1 all.2),
      all.3,
    )

cut-none : (shape : Shape) (old : Source) (ckpt start : ℕ) (front back : List BlockView) (wholes : List Whole) (end : ℕ) → Cut shape old ckpt front back wholes end
    → groups_start ckpt (front ++ back) ≡ Some start → groups_start ckpt front ≡ None → (wholes ≡ []) × (end ≡ lsn_at ckpt (length front) + 12)
cut-none shape old ckpt start front back wholes end cut both none =
    let all : AreGroupsOf shape old ckpt (front ++ back) (Some start) wholes end =
    subst (λ (o : Option ℕ). AreGroupsOf shape old ckpt (front ++ back) o wholes end) both cut.groups in
    let groups : AreGroups shape (data_from old ckpt (front ++ back) start) start wholes all.0 = all.1 in
    let last : ℕ = lsn_at ckpt (length front) in
    let behind : groups_start last back ≡ Some start = sym (starts-back ckpt front back none) ∙ both in
    let taken_back : AreTaken old last back = λ i view at.
    (let there : lsn_at last i ≡ lsn_at ckpt (length front + i) = omega arith in
    ap (view_at old) there ∙ cut.taken (length front + i) view (get-back front back i ∙ at)) in
    let starts : IsGroupsStart last start back = groups-start old last start back cut.sound (omega (arith, cut.aligned)) taken_back behind in
    let end_is : end ≡ last_span_end start (spans_of wholes) = all.3 in
    let reached : start ≤ last_span_end start (spans_of wholes) =
    boundary-before_end start wholes start starts.place groups.run (boundary-start start (spans_of wholes)) in
    let here : last + 12 ≤ start = omega (arith, starts.from) in
    let empty : wholes ≡ [] = none-between shape start wholes starts.place groups.run groups.each (omega (arith, cut.reaches)) in
    (empty, omega (arith, cut.reaches))

cut-groups : (shape : Shape) (old : Source) (ckpt : ℕ) (front back : List BlockView) (wholes : List Whole) (end : ℕ) → Cut shape old ckpt front back wholes end
    → (here both : Option ℕ) → groups_start ckpt front ≡ here → groups_start ckpt (front ++ back) ≡ both → AreGroupsOf shape old ckpt front here wholes end
cut-groups shape old ckpt front back wholes end cut (Some start) both found is = cut-found shape old ckpt start front back wholes end cut found
cut-groups shape old ckpt front back wholes end cut None (Some start) found is = cut-none shape old ckpt start front back wholes end cut is found
cut-groups shape old ckpt front back wholes end cut None None found is =
    let all : AreGroupsOf shape old ckpt (front ++ back) None wholes end =
    subst (λ (o : Option ℕ). AreGroupsOf shape old ckpt (front ++ back) o wholes end) is cut.groups in
    let end_is : end ≡ lsn_at ckpt (length (front ++ back)) + 12 = all.1 in
    absurd (omega (arith, length-append front back, cut.reaches, cut.some))

-- a block that is not kept is taken as before, or not at all
stays-or-not : (n most ckpt start i : ℕ) (old new : Source) → i ≤ n → i < most → block_of start ≤ lsn_at ckpt n → Drops n most ckpt start old new
    → (new (lsn_at ckpt i) ≡ old (lsn_at ckpt i)) ⊎ (view_at new (lsn_at ckpt i) ≡ None)
stays-or-not n most ckpt start i old new up_to below place drops =
    ⊎_elim (λ before. ⊎_elim (λ less. inl (drops.kept i less below before)) (λ last. absurd (omega arith)) (cases_lt i n))
    (λ from. ⊎_elim (λ same. inl same) (λ none. inr (view-none new (lsn_at ckpt i) none))
    (drops.dropped i up_to below from)) (cases_lt (lsn_at ckpt i) (block_of start))

-- THE LAW.

-- all blocks that were read stay
pub whole-scan : (shape : Shape) (most ckpt : ℕ) (views : List BlockView) (wholes : List Whole) (end : ℕ) (old new : Source) → IsScan shape most old ckpt views wholes end
    → ((i : ℕ) → i < length views → new (lsn_at ckpt i) ≡ old (lsn_at ckpt i))
    → (length views < most → (new (lsn_at ckpt (length views)) ≡ old (lsn_at ckpt (length views))) ⊎ (view_at new (lsn_at ckpt (length views)) ≡ None))
    → IsScan shape most new ckpt views wholes end
whole-scan shape most ckpt views wholes end old new scan same next = record {
  blocks = record {
    few = scan.blocks.few;
    each = λ i view at. same-view old new (lsn_at ckpt i) (same i (within-list views i view at)) ∙ scan.blocks.each i view at;
    full = scan.blocks.full;
    last = stay-last most old new ckpt views next scan.blocks.few scan.blocks.last;
  };
  groups = same-groups shape old new ckpt views (groups_start ckpt views) wholes end (same-joined old new ckpt views same) scan.groups;
}

-- so many full blocks in front stay, among which the log ends, and the next one is gone
front-scan : (shape : Shape) (most ckpt m : ℕ) (views : List BlockView) (wholes : List Whole) (end : ℕ) (old new : Source) → IsSoundSource old → ckpt % 512 ≡ 0
    → IsScan shape most old ckpt views wholes end → EndsWithin ckpt end views → m < length views → end ≤ lsn_at ckpt m + 12
    → ((i : ℕ) → i < m → new (lsn_at ckpt i) ≡ old (lsn_at ckpt i)) → view_at new (lsn_at ckpt m) ≡ None → Rescans shape most ckpt wholes end new
front-scan shape most ckpt m views wholes end old new sound aligned scan ends below reaches stays gone =
    let front : List BlockView = take m views in
    let back : List BlockView = drop m views in
    let parts : front ++ back ≡ views = take-append-drop m views in
    let count : length front ≡ m = omega (arith, length-take m views) in
    let at_front : (i : ℕ) (view : BlockView) → slice_get front i ≡ Some view → slice_get views i ≡ Some view = λ i view at.
    (ap (λ (vs : List BlockView). slice_get vs i) (sym parts) ∙ get-front front back i view at) in
    let full : (i : ℕ) (view : BlockView) → slice_get front i ≡ Some view → is_full view ≡ true = λ i view at.
    scan.blocks.full i view (let inside : i < length front = within-list front i view at in omega arith) (at_front i view at) in
    let taken : AreTaken old ckpt (front ++ back) = subst (λ (vs : List BlockView). AreTaken old ckpt vs) (sym parts) scan.blocks.each in
    let taken_front : AreTaken old ckpt front = λ i view at. scan.blocks.each i view (at_front i view at) in
    let row : Cut shape old ckpt front back wholes end = record {
      aligned = aligned;
      sound = sound;
      taken = taken;
      long = joined-full old ckpt front sound taken_front full;
      some = omega (arith, length-drop m views);
      groups = subst (λ (vs : List BlockView). AreGroupsOf shape old ckpt vs (groups_start ckpt vs) wholes end) (sym parts) scan.groups;
      ends = subst (λ (vs : List BlockView). EndsWithin ckpt end vs) (sym parts) ends;
      reaches = omega arith;
    } in
    let same : (i : ℕ) → i < length front → new (lsn_at ckpt i) ≡ old (lsn_at ckpt i) = λ i inside. stays i (omega arith) in
    record {
      views = front;
      scan = record {
        blocks = record {
          few = omega (arith, scan.blocks.few);
          each = λ i view at. same-view old new (lsn_at ckpt i) (same i (within-list front i view at)) ∙ taken_front i view at;
          full = λ i view more at. full i view at;
          last = inr (inr (ap (λ j. view_at new (lsn_at ckpt j)) count ∙ gone));
        };
        groups = same-groups shape old new ckpt front (groups_start ckpt front) wholes end (same-joined old new ckpt front same)
            (cut-groups shape old ckpt front back wholes end row (groups_start ckpt front) (groups_start ckpt (front ++ back)) refl refl);
      };
    }

-- one of the two
stays-scan : (shape : Shape) (most ckpt k : ℕ) (views : List BlockView) (wholes : List Whole) (end : ℕ) (old new : Source) → IsSoundSource old → ckpt % 512 ≡ 0
    → IsScan shape most old ckpt views wholes end → EndsWithin ckpt end views → StaysTo ckpt k (length views) old new → end ≤ lsn_at ckpt k + 12
    → (length views < most → (new (lsn_at ckpt (length views)) ≡ old (lsn_at ckpt (length views))) ⊎ (view_at new (lsn_at ckpt (length views)) ≡ None))
    → Rescans shape most ckpt wholes end new
stays-scan shape most ckpt k views wholes end old new sound aligned scan ends stays reaches next =
    ⊎_elim
    (λ all. record { views = views; scan = whole-scan shape most ckpt views wholes end old new scan (λ i below. stays.same i (omega arith)) next })
    (λ cut. front-scan shape most ckpt stays.m views wholes end old new sound aligned scan ends cut.0 (omega (arith, stays.low)) stays.same cut.1)
    stays.ends

pub cleared-scan : (shape : Shape) (most ckpt : ℕ) (views : List BlockView) (wholes : List Whole) (end : ℕ) (old new : Source) → IsSoundSource old → ckpt % 512 ≡ 0
    → IsScan shape most old ckpt views wholes end → Drops (length views) most ckpt (start_after end) old new
    → Rescans shape most ckpt wholes end new
cleared-scan shape most ckpt views wholes end old new sound aligned scan drops =
    let s : ℕ = start_after end in
    let ends : EndsWithin ckpt end views = ends-within shape old ckpt views (groups_start ckpt views) wholes end sound aligned scan.blocks.each refl scan.groups in
    let start : StartsBehind end = starts-behind end ends.place in
    let start_place : s % 512 ≡ 12 = start.aligned in
    let n : ℕ = length views in
    let few : n ≤ most = scan.blocks.few in
    let k : ℕ = (s - 12 - ckpt) / 512 in
    let k_is : lsn_at ckpt k + 12 ≡ s = omega (arith, ends.from, start.behind) in
    let start_high : s ≤ lsn_at ckpt n + 12 = start-within ckpt end views aligned ends in
    let k_high : k ≤ n = omega arith in
    let floor : block_of s ≡ lsn_at ckpt k = omega arith in
    let stays : StaysTo ckpt k n old new = stays-to ckpt k n (n - k) old new (omega arith)
    (λ i below. drops.kept i (omega arith) (omega arith) (omega arith))
    (λ i from below. stays-or-not n most ckpt s i old new (omega arith) (omega arith) (omega arith) drops) in
    stays-scan shape most ckpt k views wholes end old new sound aligned scan ends stays (omega (arith, start.behind))
    (λ less. stays-or-not n most ckpt s n old new (omega arith) less (omega arith) drops)
