-- What is scanned of a source that gives the blocks of a run: its groups up to one boundary between two marks.
use Rattle.std.proofs.Common.{◌≡◌, ◌≤◌, ◌<◌, ◌+◌, ◌-◌, ◌*◌, ◌%◌, ℕ, inr, List, [], ◌∷◌, ◌++◌, length, take, drop, Option, Some, None, refl, sym, ap, subst, ◌∙◌, ⊎_elim, append_assoc, arith}
use Rattle.std.specs.List.{AllByRecursion}
use Rattle.std.proofs.lemmas.List.{drop-drop, drop-take}
use Rattle.std.proofs.lemmas.Bool.{cases_lt}
use Rattle.model_base.specs.declared.shape.Shape.{Shape}
use Rattle.model_log.specs.declared.group.Whole.{Whole}
use Rattle.model_log.specs.{block_of, groups_of, IsBoundary, IsDataLsn, IsRunOf, last_span_end, sn_of, Span, spans_of, stream_between, stream_of}
use Rattle.model_log.specs.declared.block.BlockView.{BlockView}
use Rattle.model_log.proofs.BoundaryLengths.{sn_of-rises, sn_of-start}
use Rattle.model_log.proofs.Runs.{boundary-reached, boundary-back, spans_of-append, end_of-append, run-front, run-back, data-start}
use Rattle.model_log.proofs.Crossings.{IsLeast}
use Rattle.model_store.specs.{AreGroupsOf, data_from, groups_start, IsStorable, joined, Source}
use Rattle.model_parts.specs.Reads.{ScansTo}
use Rattle.model_parts.proofs.Splits.{Splits, split-at, Cuts, cut-at, end-reached, all-below-end, all-behind, all-from}
use Rattle.model_parts.proofs.LogRows.{IsBounded, IsTaken, Row, StartsRow, row-from}

drop-front : (p q : List ℕ) → drop (length p) (p ++ q) ≡ q
drop-front [] q = refl
drop-front (x ∷ p) q = drop-front p q

-- what stands in a piece of the stream from a boundary on
piece-from : (s : ℕ) (wholes : List Whole) (ckpt start end : ℕ) → sn_of s ≤ sn_of ckpt → sn_of ckpt ≤ sn_of start → sn_of start ≤ sn_of end
    → (split : Splits s wholes start)
    → drop (sn_of start - sn_of ckpt) (stream_between s (stream_of (groups_of wholes)) ckpt end) ≡ take (sn_of end - sn_of start) (stream_of (groups_of split.after))
unfolding stream_between
piece-from s wholes ckpt start end first second third split =
    let stream : List ℕ = stream_of (groups_of wholes) in
    let skip : ℕ = sn_of start - sn_of ckpt in
    let count : ℕ = sn_of end - sn_of start in
    let rest : List ℕ = drop (sn_of ckpt - sn_of s) stream in
    let all : sn_of end - sn_of ckpt ≡ skip + count = omega arith in
    let far : (sn_of ckpt - sn_of s) + skip ≡ length (stream_of (groups_of split.before)) = omega (arith, split.count) in
    ap (λ n. drop skip (take n rest)) all
    ∙ drop-take skip count rest
    ∙ ap (take count) (drop-drop skip (sn_of ckpt - sn_of s) stream
    ∙ ap (λ n. drop n stream) far
    ∙ ap (drop (length (stream_of (groups_of split.before)))) split.stream
    ∙ drop-front (stream_of (groups_of split.before)) (stream_of (groups_of split.after)))

-- where two runs of groups end, and a boundary of the second
ends-both : (s : ℕ) (before middle : List Whole) → last_span_end s (spans_of (before ++ middle)) ≡ last_span_end (last_span_end s (spans_of before)) (spans_of middle)
ends-both s before middle = ap (last_span_end s) (spans_of-append before middle) ∙ end_of-append s (spans_of before) (spans_of middle)

boundary-behind : (s : ℕ) (before others : List Whole) (m : ℕ) → IsBoundary (last_span_end s (spans_of before)) (spans_of others) m → IsBoundary s (spans_of (before ++ others)) m
boundary-behind s before others m is =
    subst (λ (spans : List Span). IsBoundary s spans m) (sym (spans_of-append before others)) (boundary-back s (spans_of before) (spans_of others) m is)

starts-before : (s : ℕ) (wholes groups : List Whole) (m ckpt : ℕ) → ((n : ℕ) → IsBoundary s (spans_of wholes) n → ckpt ≤ n → m ≤ n)
    → AllByRecursion (λ (whole : Whole). IsBoundary s (spans_of wholes) whole.start × (whole.start < m)) groups
    → AllByRecursion (λ (whole : Whole). whole.start < ckpt) groups
starts-before s wholes [] m ckpt least all = tt
starts-before s wholes (whole ∷ groups) m ckpt least all = (
  ⊎_elim (λ h. h) (λ late. let behind : m ≤ whole.start = least whole.start all.0.0 late in absurd (omega (arith, all.0.1))) (cases_lt whole.start ckpt),
  starts-before s wholes groups m ckpt least all.1,
)

good-drop : (shape : Shape) (before after : List Whole) → AllByRecursion (IsStorable shape) (groups_of (before ++ after)) → AllByRecursion (IsStorable shape) (groups_of after)
good-drop shape [] after good = good
good-drop shape (whole ∷ before) after good = good-drop shape before after good.1

good-after : (shape : Shape) (wholes before after : List Whole) → wholes ≡ before ++ after → AllByRecursion (IsStorable shape) (groups_of wholes) → AllByRecursion (IsStorable shape) (groups_of after)
good-after shape wholes before after parts good =
    good-drop shape before after (subst (λ (groups : List Whole). AllByRecursion (IsStorable shape) (groups_of groups)) parts good)

-- the groups that are found in the row's bytes
record Found (shape : Shape) (s : ℕ) (wholes : List Whole) (low high ckpt : ℕ) (source : Source) (views : List BlockView) (found : Option ℕ) : Type 0 where
  before : List Whole
  middle : List Whole
  after : List Whole
  mark : ℕ
  parts : wholes ≡ before ++ (middle ++ after)
  groups : AreGroupsOf shape source ckpt views found middle mark
  boundary : IsBoundary s (spans_of wholes) mark
  ends : last_span_end s (spans_of (before ++ middle)) ≡ mark
  from : low ≤ mark
  up_to : mark ≤ high
  starts : AllByRecursion (λ (whole : Whole). whole.start < ckpt) before
  from_ckpt : AllByRecursion (λ (whole : Whole). ckpt ≤ whole.start) middle

-- no group starts in the row: the log ends at the lower mark
found-none : (shape : Shape) (s : ℕ) (wholes : List Whole) (low high ckpt end : ℕ) (source : Source) (views : List BlockView) → IsBounded shape s wholes low high
    → ckpt ≤ low → low ≤ end → StartsRow s wholes ckpt end (length views) None → Found shape s wholes low high ckpt source views None
found-none shape s wholes low high ckpt end source views run from reaches starts =
    let split : Splits s wholes low = split-at shape s wholes low (data-start s run.starts) run.run run.good run.low_is in
    let late : end ≤ low = starts.1 low run.low_is from in
    record {
      before = split.before;
      middle = [];
      after = split.after;
      mark = low;
      parts = split.parts;
      groups = (refl, omega (arith, starts.0));
      boundary = run.low_is;
      ends = ends-both s split.before [] ∙ split.ends;
      from = omega arith;
      up_to = run.low_high;
      starts = starts-before s wholes split.before low ckpt (λ n is behind. omega (arith, starts.1 n is behind)) split.starts;
      from_ckpt = tt;
    }

found-some : (shape : Shape) (s : ℕ) (wholes : List Whole) (low high ckpt end start : ℕ) (source : Source) (views : List BlockView) → IsBounded shape s wholes low high
    → block_of s ≤ ckpt → low ≤ end → end ≤ high → IsDataLsn end → joined source ckpt views ≡ stream_between s (stream_of (groups_of wholes)) ckpt end
    → IsLeast s wholes ckpt start → start ≤ end → Found shape s wholes low high ckpt source views (Some start)
found-some shape s wholes low high ckpt end start source views run from reaches within place bytes least before_end =
    let first : IsDataLsn s = data-start s run.starts in
    let split : Splits s wholes start = split-at shape s wholes start first run.run run.good least.boundary in
    let after_start = boundary-reached s wholes start first run.run least.boundary in
    let cut : Cuts shape start split.after end = cut-at shape start split.after end after_start.place place before_end split.run (good-after shape wholes split.before split.after split.parts run.good) in
    let mark : ℕ = last_span_end start (spans_of cut.middle) in
    let after_mark = boundary-reached start split.after mark after_start.place split.run cut.boundary in
    let piece : data_from source ckpt views start ≡ stream_of (groups_of cut.middle) ++ cut.rest =
    ap (drop (sn_of start - sn_of ckpt)) bytes
    ∙ piece-from s wholes ckpt start end (sn_of-start s ckpt run.starts from) (sn_of-rises ckpt start least.from) (sn_of-rises start end before_end) split
    ∙ cut.bytes in
    record {
      before = split.before;
      middle = cut.middle;
      after = cut.after;
      mark = mark;
      parts = split.parts ∙ ap (λ (others : List Whole). split.before ++ others) cut.parts;
      groups = (
        cut.rest,
        record { bytes_are = piece; run = cut.run; each = cut.each },
        cut.front,
        refl,
      );
      boundary = subst (λ (groups : List Whole). IsBoundary s (spans_of groups) mark) (sym split.parts)
          (boundary-behind s split.before split.after mark (subst (λ (n : ℕ). IsBoundary n (spans_of split.after) mark) (sym split.ends) cut.boundary));
      ends = ends-both s split.before cut.middle ∙ ap (λ n. last_span_end n (spans_of cut.middle)) split.ends;
      from = ⊎_elim (λ early. omega (arith, after_mark.behind))
          (λ late. cut.last low (split.later low run.low_is late) reaches) (cases_lt low start);
      up_to = omega (arith, cut.below);
      starts = starts-before s wholes split.before start ckpt least.least split.starts;
      from_ckpt = all-from ckpt start cut.middle after_start.place cut.run least.from;
    }

found : (shape : Shape) (s : ℕ) (wholes : List Whole) (low high ckpt : ℕ) (source : Source) (fuel : ℕ) → IsBounded shape s wholes low high
    → block_of s ≤ ckpt → ckpt ≤ low → (row : Row s wholes low high source fuel ckpt) → (start : Option ℕ)
    → StartsRow s wholes ckpt row.end (length row.views) start → Found shape s wholes low high ckpt source row.views start
found shape s wholes low high ckpt source fuel run from before row None starts =
    found-none shape s wholes low high ckpt row.end source row.views run before row.low_end starts
found shape s wholes low high ckpt source fuel run from before row (Some start) starts =
    found-some shape s wholes low high ckpt row.end start source row.views run from row.low_end row.end_high row.place row.content starts.0 starts.1

-- THE READING THEOREM: of a source that gives from the checkpoint on what it may, exactly the groups up to one boundary
-- between the marks are scanned.
pub scans-to : (shape : Shape) (most s : ℕ) (wholes : List Whole) (low high ckpt : ℕ) (source : Source) → IsBounded shape s wholes low high
    → ckpt % 512 ≡ 0 → block_of s ≤ ckpt → ckpt ≤ low → high ≤ ckpt + 512 * most
    → ((b : ℕ) → b % 512 ≡ 0 → ckpt ≤ b → b < ckpt + 512 * most → IsTaken s wholes low high b (source b)) → ScansTo shape most s wholes low high ckpt source
scans-to shape most s wholes low high ckpt source run aligned from before room holds =
    let after = boundary-reached s wholes low (data-start s run.starts) run.run run.low_is in
    let within : ckpt + 12 ≤ high = omega (arith, after.place, run.low_high) in
    let row : Row s wholes low high source most ckpt =
    row-from shape s wholes low high source most ckpt aligned from within room run holds in
    let groups : Found shape s wholes low high ckpt source row.views (groups_start ckpt row.views) =
    found shape s wholes low high ckpt source most run from before row (groups_start ckpt row.views) row.starts in
    let parts : wholes ≡ (groups.before ++ groups.middle) ++ groups.after = groups.parts ∙ sym (append_assoc groups.before groups.middle groups.after) in
    let both : IsRunOf s (groups.before ++ groups.middle ++ groups.after) = subst (λ (all : List Whole). IsRunOf s all) parts run.run in
    let front : IsRunOf s (groups.before ++ groups.middle) = run-front s (groups.before ++ groups.middle) groups.after both in
    let back : IsRunOf (last_span_end s (spans_of (groups.before ++ groups.middle))) groups.after = run-back s (groups.before ++ groups.middle) groups.after both in
    let first : IsDataLsn s = data-start s run.starts in
    let mark_place : IsDataLsn groups.mark = subst IsDataLsn groups.ends (end-reached s (groups.before ++ groups.middle) first front).place in
    record {
      views = row.views;
      before = groups.before;
      middle = groups.middle;
      after = groups.after;
      mark = groups.mark;
      parts = groups.parts;
      scan = record {
        blocks = record { few = row.few; each = row.each; full = row.full; last = inr row.last };
        groups = groups.groups;
      };
      boundary = groups.boundary;
      ends = groups.ends;
      from = groups.from;
      up_to = groups.up_to;
      starts = groups.starts;
      from_ckpt = groups.from_ckpt;
      read_end = subst (λ (m : ℕ). AllByRecursion (λ (whole : Whole). whole.end ≤ m) (groups.before ++ groups.middle)) groups.ends (all-below-end s (groups.before ++ groups.middle) first front);
      other_ends = all-behind shape groups.mark groups.mark groups.after mark_place (subst (λ (m : ℕ). IsRunOf m groups.after) groups.ends back)
          (good-after shape wholes (groups.before ++ groups.middle) groups.after parts run.good) (omega arith);
    }
