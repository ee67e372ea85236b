-- Runs taken apart and joined, their boundaries, and where the groups of a run end.
use Rattle.std.proofs.Common.{◌≡◌, ◌≤◌, ◌+◌, ℕ, inl, inr, List, [], ◌∷◌, ◌++◌, length, refl, sym, ap, subst, ◌∙◌, ⊎_elim, append_assoc, length-append, arith}
use Rattle.std.specs.List.{AllByRecursion}
use Rattle.std.proofs.lemmas.Bool.Decides.{nat_tests}
use Rattle.model_log.specs.declared.group.Whole.{Whole}
use Rattle.model_log.specs.Group.{group_length, group_text, groups_of, stream_of, Span, IsTiled, IsBoundary, last_span_end, span_of, spans_of, HasItsLength, IsRunOf}
use Rattle.model_log.specs.Block.{lsn_of, sn_of, IsAtDataStart}
use Rattle.model_log.specs.Boundary.{IsDataLsn}

-- ANY PIECES

-- the start is a boundary, and the end is
pub boundary-start : (s : ℕ) (spans : List Span) → IsBoundary s spans s
boundary-start s [] = refl
boundary-start s (span ∷ spans) = inl refl

pub boundary-end : (s : ℕ) (spans : List Span) → IsBoundary s spans (last_span_end s spans)
boundary-end s [] = refl
boundary-end s (span ∷ spans) = inr (boundary-end span.end spans)

-- two runs, the second of which starts where the first ends
pub end_of-append : (s : ℕ) (front back : List Span) → last_span_end s (front ++ back) ≡ last_span_end (last_span_end s front) back
end_of-append s [] back = refl
end_of-append s (span ∷ front) back = end_of-append span.end front back

pub tiled-append : (s : ℕ) (front back : List Span) → IsTiled s front → IsTiled (last_span_end s front) back → IsTiled s (front ++ back)
tiled-append s [] back a b = b
tiled-append s (span ∷ front) back a b = (a.0, tiled-append span.end front back a.1 b)

pub tiled-front : (s : ℕ) (front back : List Span) → IsTiled s (front ++ back) → IsTiled s front
tiled-front s [] back tiled = tt
tiled-front s (span ∷ front) back tiled = (tiled.0, tiled-front span.end front back tiled.1)

pub tiled-back : (s : ℕ) (front back : List Span) → IsTiled s (front ++ back) → IsTiled (last_span_end s front) back
tiled-back s [] back tiled = tiled
tiled-back s (span ∷ front) back tiled = tiled-back span.end front back tiled.1

-- a boundary of the front or of the back is one of both, and the other way round
pub boundary-front : (s : ℕ) (front back : List Span) (m : ℕ) → IsBoundary s front m → IsBoundary s (front ++ back) m
boundary-front s [] back m is = subst (λ (n : ℕ). IsBoundary s back n) (sym is) (boundary-start s back)
boundary-front s (span ∷ front) back m is = ⊎_elim (λ same. inl same) (λ later. inr (boundary-front span.end front back m later)) is

pub boundary-back : (s : ℕ) (front back : List Span) (m : ℕ) → IsBoundary (last_span_end s front) back m → IsBoundary s (front ++ back) m
boundary-back s [] back m is = is
boundary-back s (span ∷ front) back m is = inr (boundary-back span.end front back m is)

-- GROUPS

pub spans_of-append : (front back : List Whole) → spans_of (front ++ back) ≡ spans_of front ++ spans_of back
spans_of-append [] back = refl
spans_of-append (whole ∷ front) back = ap (λ (spans : List Span). span_of whole ∷ spans) (spans_of-append front back)

-- a run's first group, and the run after it
pub run-first : {s : ℕ} {whole : Whole} {wholes : List Whole} → IsRunOf s (whole ∷ wholes)
    → (whole.start ≡ s) × (whole.end ≡ lsn_of (sn_of whole.start + group_length whole.group)) × IsRunOf whole.end wholes
run-first run = (run.tiled.0, run.lengths.0, record { tiled = run.tiled.1; lengths = run.lengths.1 })

-- a group before a run
pub run-cons : (s : ℕ) (whole : Whole) (wholes : List Whole) → whole.start ≡ s → HasItsLength whole → IsRunOf whole.end wholes → IsRunOf s (whole ∷ wholes)
run-cons s whole wholes from to rest = record { tiled = (from, rest.tiled); lengths = (to, rest.lengths) }

pub run-none : (s : ℕ) → IsRunOf s []
run-none s = record { tiled = tt; lengths = tt }

lengths-front : (front back : List Whole) → AllByRecursion HasItsLength (front ++ back) → AllByRecursion HasItsLength front
lengths-front [] back all = tt
lengths-front (whole ∷ front) back all = (all.0, lengths-front front back all.1)

lengths-back : (front back : List Whole) → AllByRecursion HasItsLength (front ++ back) → AllByRecursion HasItsLength back
lengths-back [] back all = all
lengths-back (whole ∷ front) back all = lengths-back front back all.1

lengths-append : (front back : List Whole) → AllByRecursion HasItsLength front → AllByRecursion HasItsLength back → AllByRecursion HasItsLength (front ++ back)
lengths-append [] back a b = b
lengths-append (whole ∷ front) back a b = (a.0, lengths-append front back a.1 b)

-- two runs of groups joined, and taken apart
pub run-append : (s : ℕ) (front back : List Whole) → IsRunOf s front → IsRunOf (last_span_end s (spans_of front)) back → IsRunOf s (front ++ back)
run-append s front back a b = record {
  tiled = subst (λ (spans : List Span). IsTiled s spans) (sym (spans_of-append front back)) (tiled-append s (spans_of front) (spans_of back) a.tiled b.tiled);
  lengths = lengths-append front back a.lengths b.lengths;
}

both-tiled : (s : ℕ) (front back : List Whole) → IsRunOf s (front ++ back) → IsTiled s (spans_of front ++ spans_of back)
both-tiled s front back run = subst (λ (spans : List Span). IsTiled s spans) (spans_of-append front back) run.tiled

pub run-front : (s : ℕ) (front back : List Whole) → IsRunOf s (front ++ back) → IsRunOf s front
run-front s front back run = record {
  tiled = tiled-front s (spans_of front) (spans_of back) (both-tiled s front back run);
  lengths = lengths-front front back run.lengths;
}

pub run-back : (s : ℕ) (front back : List Whole) → IsRunOf s (front ++ back) → IsRunOf (last_span_end s (spans_of front)) back
run-back s front back run = record {
  tiled = tiled-back s (spans_of front) (spans_of back) (both-tiled s front back run);
  lengths = lengths-back front back run.lengths;
}

-- one more group at the end
pub run-push : (s : ℕ) (wholes : List Whole) (whole : Whole) → IsRunOf s wholes → whole.start ≡ last_span_end s (spans_of wholes) → HasItsLength whole → IsRunOf s (wholes ++ whole ∷ [])
run-push s wholes whole run from to =
    run-append s wholes (whole ∷ []) run (run-cons (last_span_end s (spans_of wholes)) whole [] from to (run-none whole.end))

-- a boundary of the front is one of the longer run
pub boundary-longer : (s : ℕ) (wholes more : List Whole) (m : ℕ) → IsBoundary s (spans_of wholes) m → IsBoundary s (spans_of (wholes ++ more)) m
boundary-longer s wholes more m is =
    subst (λ (spans : List Span). IsBoundary s spans m) (sym (spans_of-append wholes more)) (boundary-front s (spans_of wholes) (spans_of more) m is)

-- WHERE GROUPS END

pub data-start : (s : ℕ) → IsAtDataStart s → IsDataLsn s
data-start s start = (omega arith, omega arith)

-- lsns of bytes stand in the order of the bytes that precede them
pub lsn-before : (low high : ℕ) → IsDataLsn low → IsDataLsn high → sn_of low ≤ sn_of high → low ≤ high
lsn-before low high low_data high_data below = grind (arith, nat_tests)

lsn_of-data : (sn : ℕ) → IsDataLsn (lsn_of sn)
lsn_of-data sn = (omega arith, omega arith)

sn_of-lsn_of : (sn : ℕ) → sn_of (lsn_of sn) ≡ sn
sn_of-lsn_of sn = grind (arith, nat_tests)

-- what a run says of its first group
pub record First (s : ℕ) (whole : Whole) : Type 0 where
  pub start : whole.start ≡ s
  pub place : IsDataLsn whole.end
  pub rises : s ≤ whole.end
  pub count : sn_of whole.end ≡ sn_of s + group_length whole.group

pub first-of : (s : ℕ) (whole : Whole) (wholes : List Whole) → IsDataLsn s → IsRunOf s (whole ∷ wholes) → First s whole
first-of s whole wholes place run =
    let start : whole.start ≡ s = run.tiled.0 in
    let end : whole.end ≡ lsn_of (sn_of s + group_length whole.group) = run.lengths.0 ∙ ap (λ start. lsn_of (sn_of start + group_length whole.group)) start in
    let held : IsDataLsn whole.end = subst IsDataLsn (sym end) (lsn_of-data (sn_of s + group_length whole.group)) in
    let count : sn_of whole.end ≡ sn_of s + group_length whole.group = ap sn_of end ∙ sn_of-lsn_of (sn_of s + group_length whole.group) in
    record { start = start; place = held; rises = lsn-before s whole.end place held (omega arith); count = count }

-- the stream of a run, one group on, and of two runs
pub stream-none : stream_of (groups_of []) ≡ []
unfolding stream_of
stream-none = refl

pub stream-first : (whole : Whole) (wholes : List Whole) → stream_of (groups_of (whole ∷ wholes)) ≡ group_text whole.group ++ stream_of (groups_of wholes)
unfolding stream_of
stream-first whole wholes = refl

pub stream-append : (front back : List Whole) → stream_of (groups_of (front ++ back)) ≡ stream_of (groups_of front) ++ stream_of (groups_of back)
stream-append [] back = ap (λ (bytes : List ℕ). bytes ++ stream_of (groups_of back)) (sym stream-none)
stream-append (whole ∷ front) back =
    stream-first whole (front ++ back)
    ∙ ap (λ (bytes : List ℕ). group_text whole.group ++ bytes) (stream-append front back)
    ∙ sym (append_assoc (group_text whole.group) (stream_of (groups_of front)) (stream_of (groups_of back)))
    ∙ ap (λ (bytes : List ℕ). bytes ++ stream_of (groups_of back)) (sym (stream-first whole front))

-- A boundary of a run stands at the place of a byte, no earlier than the run's start, and the stream reaches it.
pub record IsReached (s : ℕ) (wholes : List Whole) (m : ℕ) : Type 0 where
  pub place : IsDataLsn m
  pub behind : s ≤ m
  pub reaches : sn_of m ≤ sn_of s + length (stream_of (groups_of wholes))

reached-start : (s : ℕ) (wholes : List Whole) (m : ℕ) → IsDataLsn s → m ≡ s → IsReached s wholes m
reached-start s wholes m place same =
    subst (λ (lsn : ℕ). IsReached s wholes lsn) (sym same) (record { place = place; behind = omega arith; reaches = omega arith })

pub boundary-reached : (s : ℕ) (wholes : List Whole) (m : ℕ) → IsDataLsn s → IsRunOf s wholes → IsBoundary s (spans_of wholes) m → IsReached s wholes m
boundary-reached s [] m place run boundary = reached-start s [] m place boundary
boundary-reached s (whole ∷ wholes) m place run boundary =
    ⊎_elim (λ same. reached-start s (whole ∷ wholes) m place same)
    (λ later.
    let first : First s whole = first-of s whole wholes place run in
    let others : IsReached whole.end wholes m = boundary-reached whole.end wholes m first.place (run-first run).2 later in
    record {
      place = others.place;
      behind = omega (arith, first.rises, others.behind);
      reaches = omega (arith, first.count, others.reaches, ap length (stream-first whole wholes), length-append (group_text whole.group) (stream_of (groups_of wholes)));
    }) boundary

-- a boundary is no later than the end
pub boundary-before_end : (s : ℕ) (wholes : List Whole) (m : ℕ) → IsDataLsn s → IsRunOf s wholes → IsBoundary s (spans_of wholes) m → m ≤ last_span_end s (spans_of wholes)
boundary-before_end s [] m place run is = omega arith
boundary-before_end s (whole ∷ wholes) m place run is =
    let first : First s whole = first-of s whole wholes place run in
    let later : IsRunOf whole.end wholes = (run-first run).2 in
    ⊎_elim (λ same. let behind = boundary-before_end whole.end wholes whole.end first.place later (boundary-start whole.end (spans_of wholes)) in omega (arith, first.rises))
    (λ there. boundary-before_end whole.end wholes m first.place later there) is
