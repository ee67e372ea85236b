-- The groups of a run before and after one of its boundaries, and those that end within a piece of its stream.
use Rattle.std.proofs.Common.{◌≡◌, ◌≤◌, ◌<◌, ◌+◌, ◌-◌, ℕ, suc, inl, inr, List, [], ◌∷◌, ◌++◌, length, take, drop, refl, sym, ap, subst, ◌∙◌, ⊎_elim, append_assoc, length-append, length-take, length-drop, arith}
use Rattle.std.specs.List.{AllByRecursion}
use Rattle.std.proofs.lemmas.List.{take-append-drop, take_all, take-append-le, append-nil}
use Rattle.std.proofs.lemmas.Bool.{cases_lt}
use Rattle.model_base.specs.declared.shape.Shape.{Shape}
use Rattle.model_log.specs.declared.rec.Rec.{Rec}
use Rattle.model_log.specs.declared.rec.Rec.TheVariants.{Init}
use Rattle.model_log.specs.declared.group.Whole.{Whole}
use Rattle.model_log.specs.{group_length, group_text, groups_of, IsBoundary, IsDataLsn, IsFront, IsGroup, IsRunOf, last_span_end, sn_of, spans_of, stream_of}
use Rattle.model_store.specs.{IsStorable}
use Rattle.model_parts.proofs.Bytes.{group_text-some}
use Rattle.model_log.proofs.Runs.{First, first-of, run-first, run-none, run-cons, boundary-start, boundary-end, IsReached, boundary-reached, stream-none, stream-first, lsn-before}
use Rattle.model_log.proofs.BoundaryLengths.{sn_of-rises}

-- a group that fits has a byte
pub good-some : (shape : Shape) (group : List Rec) → IsStorable shape group → 1 ≤ group_length group
good-some shape group good = group_text-some group good.has_text.some

-- so the run's first group ends after its start
pub first-ends : (shape : Shape) (s : ℕ) (whole : Whole) → IsDataLsn s → First s whole → IsStorable shape whole.group → s < whole.end
first-ends shape s whole place first good =
    let some : 1 ≤ group_length whole.group = good-some shape whole.group good in
    let count : sn_of whole.end ≡ sn_of s + group_length whole.group = first.count in
    ⊎_elim (λ later. later) (λ same. let is : whole.end ≡ s = omega (arith, first.rises) in
    let none : sn_of whole.end ≡ sn_of s = ap sn_of is in absurd (omega arith)) (cases_lt s whole.end)

-- A run in two parts, up to one of its boundaries and from it on.
pub record Splits (s : ℕ) (wholes : List Whole) (m : ℕ) : Type 0 where
  pub before : List Whole
  pub after : List Whole
  pub parts : wholes ≡ before ++ after
  pub ends : last_span_end s (spans_of before) ≡ m
  pub run : IsRunOf m after
  pub count : sn_of m ≡ sn_of s + length (stream_of (groups_of before))
  pub stream : stream_of (groups_of wholes) ≡ stream_of (groups_of before) ++ stream_of (groups_of after)
  pub later : (n : ℕ) → IsBoundary s (spans_of wholes) n → m ≤ n → IsBoundary m (spans_of after) n
  pub starts : AllByRecursion (λ (whole : Whole). IsBoundary s (spans_of wholes) whole.start × (whole.start < m)) before

split-here : (s : ℕ) (wholes : List Whole) (m : ℕ) → m ≡ s → IsRunOf s wholes → Splits s wholes m
split-here s wholes m same run =
    subst (λ (n : ℕ). Splits s wholes n) (sym same) (record {
      before = [];
      after = wholes;
      parts = refl;
      ends = refl;
      run = run;
      count = omega (arith, ap length stream-none);
      stream = ap (λ (bytes : List ℕ). bytes ++ stream_of (groups_of wholes)) (sym stream-none);
      later = λ n is behind. is;
      starts = tt;
    })

all-starts : (s m : ℕ) (whole : Whole) (wholes groups : List Whole)
    → AllByRecursion (λ (one : Whole). IsBoundary whole.end (spans_of wholes) one.start × (one.start < m)) groups
    → AllByRecursion (λ (one : Whole). IsBoundary s (spans_of (whole ∷ wholes)) one.start × (one.start < m)) groups
all-starts s m whole wholes [] all = tt
all-starts s m whole wholes (one ∷ groups) all = ((inr all.0.0, all.0.1), all-starts s m whole wholes groups all.1)

pub split-at : (shape : Shape) (s : ℕ) (wholes : List Whole) (m : ℕ) → IsDataLsn s → IsRunOf s wholes → AllByRecursion (IsStorable shape) (groups_of wholes)
    → IsBoundary s (spans_of wholes) m → Splits s wholes m
split-at shape s [] m place run good is = split-here s [] m is run
split-at shape s (whole ∷ wholes) m place run good is =
    ⊎_elim (λ same. split-here s (whole ∷ wholes) m same run)
    (λ behind.
    let first : First s whole = first-of s whole wholes place run in
    let others : Splits whole.end wholes m = split-at shape whole.end wholes m first.place (run-first run).2 good.1 behind in
    let after = boundary-reached whole.end wholes m first.place (run-first run).2 behind in
    let ends : s < whole.end = first-ends shape s whole place first good.0 in
    record {
      before = whole ∷ others.before;
      after = others.after;
      parts = ap (λ (groups : List Whole). whole ∷ groups) others.parts;
      ends = others.ends;
      run = others.run;
      count = omega (arith, first.count, others.count, ap length (stream-first whole others.before), length-append (group_text whole.group) (stream_of (groups_of others.before)));
      stream = stream-first whole wholes ∙ ap (λ (bytes : List ℕ). group_text whole.group ++ bytes) others.stream
          ∙ sym (append_assoc (group_text whole.group) (stream_of (groups_of others.before)) (stream_of (groups_of others.after)))
          ∙ ap (λ (bytes : List ℕ). bytes ++ stream_of (groups_of others.after)) (sym (stream-first whole others.before));
      later = λ n at low. ⊎_elim (λ same. absurd (omega (arith, after.behind))) (λ there. others.later n there low) at;
      starts = (
        (inl first.start, omega (arith, first.start, after.behind)),
        all-starts s m whole wholes others.before others.starts,
      );
    }) is

-- The groups that end within the piece of the stream up to the lsn e, which is a byte's place; after them stands less
-- than a whole one.
pub record Cuts (shape : Shape) (s : ℕ) (wholes : List Whole) (e : ℕ) : Type 0 where
  pub middle : List Whole
  pub after : List Whole
  pub rest : List ℕ
  pub parts : wholes ≡ middle ++ after
  pub bytes : take (sn_of e - sn_of s) (stream_of (groups_of wholes)) ≡ stream_of (groups_of middle) ++ rest
  pub front : IsFront rest
  pub run : IsRunOf s middle
  pub each : AllByRecursion (IsStorable shape) (groups_of middle)
  pub boundary : IsBoundary s (spans_of wholes) (last_span_end s (spans_of middle))
  pub below : last_span_end s (spans_of middle) ≤ e
  pub last : (n : ℕ) → IsBoundary s (spans_of wholes) n → n ≤ e → n ≤ last_span_end s (spans_of middle)

-- a group, to begin with
one_group : List Rec
one_group = Init 0 0 ∷ []

pub front-nil : IsFront []
unfolding one_group
front-nil =
    let is_group : IsGroup one_group = record { some = λ none. cc; each = ((omega arith, omega arith), tt) } in (
      omega arith,
      (
        group_text one_group,
        one_group,
        (λ none. let some : 1 ≤ length (group_text one_group) = group_text-some one_group is_group.some in absurd (omega (arith, ap length none))),
        record { is_group = is_group; spelled = refl },
      ),
    )

-- less than the text of a group that fits is less than a whole group
pub front-part : (shape : Shape) (group : List Rec) (n : ℕ) → IsStorable shape group → n < group_length group → IsFront (take n (group_text group))
front-part shape group n good short =
    let text : List ℕ = group_text group in (
      omega (arith, good.short, length-take n text),
      (
        drop n text,
        group,
        (λ none. absurd (omega (arith, ap length none, length-drop n text))),
        record { is_group = good.has_text; spelled = take-append-drop n text },
      ),
    )

take-more : (p q : List ℕ) (n : ℕ) → take (length p + n) (p ++ q) ≡ p ++ take n q
take-more [] q n = let same : length {A = ℕ} [] + n ≡ n = omega arith in ap (λ k. take k q) same
take-more (x ∷ p) q n =
    let same : length (x ∷ p) + n ≡ suc (length p + n) = omega arith in
    ap (λ k. take k (x ∷ p ++ q)) same ∙ ap (λ xs. x ∷ xs) (take-more p q n)

cut-none : (shape : Shape) (s e : ℕ) → s ≤ e → Cuts shape s [] e
cut-none shape s e low = record {
  middle = [];
  after = [];
  rest = [];
  parts = refl;
  bytes = take_all (sn_of e - sn_of s) (stream_of (groups_of [])) (omega (arith, ap length stream-none)) ∙ sym (append-nil (stream_of (groups_of [])));
  front = front-nil;
  run = run-none s;
  each = tt;
  boundary = refl;
  below = low;
  last = λ n is within. omega arith;
}

cut-part : (shape : Shape) (s e : ℕ) (whole : Whole) (wholes : List Whole) → IsDataLsn s → IsDataLsn e → s ≤ e → IsRunOf s (whole ∷ wholes)
    → IsStorable shape whole.group → First s whole → e < whole.end → Cuts shape s (whole ∷ wholes) e
cut-part shape s e whole wholes place held low run good first short =
    let count : sn_of whole.end ≡ sn_of s + group_length whole.group = first.count in
    let some : 1 ≤ group_length whole.group = good-some shape whole.group good in
    let less : sn_of e - sn_of s < group_length whole.group =
    ⊎_elim (λ h. h) (λ much. let late : whole.end ≤ e = lsn-before whole.end e first.place held (omega arith) in absurd (omega arith)) (cases_lt (sn_of e - sn_of s) (group_length whole.group)) in
    record {
      middle = [];
      after = whole ∷ wholes;
      rest = take (sn_of e - sn_of s) (group_text whole.group);
      parts = refl;
      bytes = ap (take (sn_of e - sn_of s)) (stream-first whole wholes)
          ∙ take-append-le (sn_of e - sn_of s) (group_text whole.group) (stream_of (groups_of wholes)) (omega arith)
          ∙ ap (λ (bytes : List ℕ). bytes ++ take (sn_of e - sn_of s) (group_text whole.group)) (sym stream-none);
      front = front-part shape whole.group (sn_of e - sn_of s) good less;
      run = run-none s;
      each = tt;
      boundary = inl refl;
      below = low;
      last = λ n is within. ⊎_elim (λ same. omega arith)
          (λ later. let after = boundary-reached whole.end wholes n first.place (run-first run).2 later in absurd (omega (arith, after.behind))) is;
    }

cut-more : (shape : Shape) (s e : ℕ) (whole : Whole) (wholes : List Whole) → IsRunOf s (whole ∷ wholes) → IsStorable shape whole.group
    → First s whole → whole.end ≤ e → Cuts shape whole.end wholes e → Cuts shape s (whole ∷ wholes) e
cut-more shape s e whole wholes run good first fits others =
    let rises : sn_of whole.end ≤ sn_of e = sn_of-rises whole.end e fits in
    let count : sn_of e - sn_of s ≡ group_length whole.group + (sn_of e - sn_of whole.end) = omega (arith, first.count) in
    let behind : whole.end ≤ last_span_end whole.end (spans_of others.middle) = others.last whole.end (boundary-start whole.end (spans_of wholes)) fits in
    record {
      middle = whole ∷ others.middle;
      after = others.after;
      rest = others.rest;
      parts = ap (λ (groups : List Whole). whole ∷ groups) others.parts;
      bytes = ap (take (sn_of e - sn_of s)) (stream-first whole wholes)
          ∙ ap (λ n. take n (group_text whole.group ++ stream_of (groups_of wholes))) count
          ∙ take-more (group_text whole.group) (stream_of (groups_of wholes)) (sn_of e - sn_of whole.end)
          ∙ ap (λ (bytes : List ℕ). group_text whole.group ++ bytes) others.bytes
          ∙ sym (append_assoc (group_text whole.group) (stream_of (groups_of others.middle)) others.rest)
          ∙ ap (λ (bytes : List ℕ). bytes ++ others.rest) (sym (stream-first whole others.middle));
      front = others.front;
      run = run-cons s whole others.middle (run-first run).0 (run-first run).1 others.run;
      each = (good, others.each);
      boundary = inr others.boundary;
      below = others.below;
      last = λ n is within. ⊎_elim (λ same. omega (arith, first.rises))
          (λ later. others.last n later within) is;
    }

pub cut-at : (shape : Shape) (s : ℕ) (wholes : List Whole) (e : ℕ) → IsDataLsn s → IsDataLsn e → s ≤ e → IsRunOf s wholes
    → AllByRecursion (IsStorable shape) (groups_of wholes) → Cuts shape s wholes e
cut-at shape s [] e place held low run good = cut-none shape s e low
cut-at shape s (whole ∷ wholes) e place held low run good =
    let first : First s whole = first-of s whole wholes place run in
    ⊎_elim (λ short. cut-part shape s e whole wholes place held low run good.0 first short)
    (λ fits. cut-more shape s e whole wholes run good.0 first fits
    (cut-at shape whole.end wholes e first.place held fits (run-first run).2 good.1)) (cases_lt e whole.end)

-- THE GROUPS AT OR BELOW A MARK, AND FROM ONE ON

-- a run ends no earlier than it starts
pub end-reached : (s : ℕ) (wholes : List Whole) → IsDataLsn s → IsRunOf s wholes → IsReached s wholes (last_span_end s (spans_of wholes))
end-reached s wholes place run = boundary-reached s wholes (last_span_end s (spans_of wholes)) place run (boundary-end s (spans_of wholes))

pub all-below-end : (s : ℕ) (wholes : List Whole) → IsDataLsn s → IsRunOf s wholes → AllByRecursion (λ (whole : Whole). whole.end ≤ last_span_end s (spans_of wholes)) wholes
all-below-end s [] place run = tt
all-below-end s (whole ∷ wholes) place run =
    let first : First s whole = first-of s whole wholes place run in
    let rest : IsRunOf whole.end wholes = (run-first run).2 in
    ((end-reached whole.end wholes first.place rest).behind, all-below-end whole.end wholes first.place rest)

pub all-behind : (shape : Shape) (m s : ℕ) (wholes : List Whole) → IsDataLsn s → IsRunOf s wholes → AllByRecursion (IsStorable shape) (groups_of wholes) → m ≤ s
    → AllByRecursion (λ (whole : Whole). m < whole.end) wholes
all-behind shape m s [] place run good low = tt
all-behind shape m s (whole ∷ wholes) place run good low =
    let first : First s whole = first-of s whole wholes place run in
    let ends : s < whole.end = first-ends shape s whole place first good.0 in
    (omega arith, all-behind shape m whole.end wholes first.place (run-first run).2 good.1 (omega arith))

pub all-from : (m s : ℕ) (wholes : List Whole) → IsDataLsn s → IsRunOf s wholes → m ≤ s → AllByRecursion (λ (whole : Whole). m ≤ whole.start) wholes
all-from m s [] place run low = tt
all-from m s (whole ∷ wholes) place run low =
    let first : First s whole = first-of s whole wholes place run in
    (omega (arith, first.start), all-from m whole.end wholes first.place (run-first run).2 (omega (arith, first.rises)))
