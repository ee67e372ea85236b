-- Where the group ends that crosses into a block, and where the first one starts in it.
use Rattle.std.proofs.Common.{◌≡◌, ◌≤◌, ◌<◌, ◌+◌, ◌-◌, ◌%◌, ◌==◌, ◌⊎◌, ℕ, inl, inr, Bool, true, false, cond, List, [], ◌∷◌, ◌++◌, Option, Some, None, refl, sym, ap, subst, ◌∙◌, ⊎_elim, arith}
use Rattle.std.proofs.lemmas.Bool.{cases_Bool, cases_lt}
use Rattle.std.proofs.lemmas.Bool.Decides.{nat_tests}
use Rattle.model_log.specs.declared.group.Whole.{Whole}
use Rattle.model_log.specs.Block.{block_of, IsAtDataStart}
use Rattle.model_log.specs.Boundary.{IsDataLsn, ends_in, crossing_end, first_at}
use Rattle.model_log.specs.Group.{Span, IsBoundary, last_span_end, span_of, spans_of, IsRunOf}
use Rattle.model_log.proofs.Runs.{First, first-of, run-first, boundary-reached, boundary-start, data-start}

-- the search for the group that crosses, one group on
crossing-choice : (b : ℕ) (whole : Whole) (wholes : List Whole) (test : Bool) → ends_in b (span_of whole) ≡ test
    → crossing_end b (spans_of (whole ∷ wholes)) ≡ cond test (Some whole.end) (crossing_end b (spans_of wholes))
crossing-choice b whole wholes test is = ap (λ (t : Bool). cond t (Some whole.end) (crossing_end b (spans_of wholes))) is

ends_in-block : (b : ℕ) (span : Span) → ends_in b span ≡ true → block_of span.end ≡ b
ends_in-block b span is = grind (arith, nat_tests)

not-ends_in : (b : ℕ) (span : Span) → b % 512 ≡ 0 → span.start < b → b ≤ span.end → span.end < b + 512 → ends_in b span ≡ true
not-ends_in b span aligned before from below = grind (arith, nat_tests)

starts-behind : (b : ℕ) (span : Span) → b % 512 ≡ 0 → b ≤ span.start → ends_in b span ≡ false
starts-behind b span aligned behind = grind (arith, nat_tests)

-- none crosses into a block that begins at or before the start of the run
pub crosses-none : (s : ℕ) (wholes : List Whole) (b : ℕ) → IsDataLsn s → IsRunOf s wholes → b % 512 ≡ 0 → b ≤ s → crossing_end b (spans_of wholes) ≡ None
crosses-none s [] b place run aligned low = refl
crosses-none s (whole ∷ wholes) b place run aligned low =
    let first : First s whole = first-of s whole wholes place run in
    crossing-choice b whole wholes false (starts-behind b (span_of whole) aligned (omega (arith, first.start)))
    ∙ crosses-none whole.end wholes b first.place (run-first run).2 aligned (omega (arith, first.rises))

-- WHAT THE FIRST OFFSET OF A BLOCK SAYS

-- the first boundary from b on
pub record IsLeast (s : ℕ) (wholes : List Whole) (b m : ℕ) : Type 0 where
  pub boundary : IsBoundary s (spans_of wholes) m
  pub from : b ≤ m
  pub least : (n : ℕ) → IsBoundary s (spans_of wholes) n → b ≤ n → m ≤ n

-- no boundary stands in the block at b
pub record IsEmptyOf (s : ℕ) (wholes : List Whole) (b : ℕ) : Type 0 where
  pub none : (n : ℕ) → IsBoundary s (spans_of wholes) n → b ≤ n → b + 512 ≤ n

-- the first boundary from b on stands in that block, at this offset
pub record StartsAt (s : ℕ) (wholes : List Whole) (b first : ℕ) : Type 0 where
  pub some : 12 ≤ first
  pub inside : first < 508
  pub least : IsLeast s wholes b (b + first)

-- what the search for the crossing group finds
abbrev Crossed : ℕ → List Whole → ℕ → Option ℕ → Type 0
Crossed s wholes b None = IsEmptyOf s wholes b
Crossed s wholes b (Some end) = (b ≤ end) × StartsAt s wholes b (end - b)

block-starts : (b end : ℕ) → b % 512 ≡ 0 → block_of end ≡ b → IsDataLsn end → (b ≤ end) × (12 ≤ end - b) × (end - b < 508) × (b + (end - b) ≡ end)
block-starts b end aligned inside place = (omega arith, omega arith, omega arith, omega arith)

-- the same with the run's first group, which starts before the block
widen : (s : ℕ) (whole : Whole) (wholes : List Whole) (b : ℕ) (found : Option ℕ) → s < b → Crossed whole.end wholes b found → Crossed s (whole ∷ wholes) b found
widen s whole wholes b None before empty = record { none = λ n at from. ⊎_elim (λ same. absurd (omega arith)) (λ later. empty.none n later from) at }
widen s whole wholes b (Some end) before (low, starts) = (
  low,
  record {
    some = starts.some;
    inside = starts.inside;
    least = record {
      boundary = inr starts.least.boundary;
      from = starts.least.from;
      least = λ n at from. ⊎_elim (λ same. absurd (omega arith)) (λ later. starts.least.least n later from) at;
    };
  },
)

-- the first group is the one
crossed-here : (s : ℕ) (whole : Whole) (wholes : List Whole) (b : ℕ) → First s whole → IsRunOf whole.end wholes → b % 512 ≡ 0 → s < b
    → block_of whole.end ≡ b → Crossed s (whole ∷ wholes) b (Some whole.end)
crossed-here s whole wholes b first rest aligned before inside =
    let facts = block-starts b whole.end aligned inside first.place in
    let is : IsLeast s (whole ∷ wholes) b whole.end = record {
      boundary = inr (boundary-start whole.end (spans_of wholes));
      from = facts.0;
      least = λ n at from. ⊎_elim (λ same. absurd (omega arith))
          (λ later. (boundary-reached whole.end wholes n first.place rest later).behind) at;
    } in (
      facts.0,
      record { some = facts.1; inside = facts.2; least = subst (λ (m : ℕ). IsLeast s (whole ∷ wholes) b m) (sym facts.3) is },
    )

-- it ends past the block
crossed-late : (s : ℕ) (whole : Whole) (wholes : List Whole) (b : ℕ) → First s whole → IsRunOf whole.end wholes → b % 512 ≡ 0 → s < b
    → ends_in b (span_of whole) ≡ false → b ≤ whole.end → Crossed s (whole ∷ wholes) b None
crossed-late s whole wholes b first rest aligned before passed late =
    let behind : b + 512 ≤ whole.end =
    ⊎_elim (λ inside. let crosses : ends_in b (span_of whole) ≡ true = not-ends_in b (span_of whole) aligned (omega (arith, first.start)) late inside in absurd cc)
    (λ h. h) (cases_lt whole.end (b + 512)) in
    record {
      none = λ n at from. ⊎_elim (λ same. absurd (omega arith))
          (λ later. omega (arith, (boundary-reached whole.end wholes n first.place rest later).behind)) at;
    }

crossing-cases : (s : ℕ) (wholes : List Whole) (b : ℕ) → IsDataLsn s → IsRunOf s wholes → b % 512 ≡ 0 → s < b → Crossed s wholes b (crossing_end b (spans_of wholes))
crossing-cases s [] b place run aligned before = record { none = λ n is from. absurd (omega arith) }
crossing-cases s (whole ∷ wholes) b place run aligned before =
    let first : First s whole = first-of s whole wholes place run in
    let rest : IsRunOf whole.end wholes = (run-first run).2 in
    let Found : Option ℕ → Type 0 = λ found. Crossed s (whole ∷ wholes) b found in
    ⊎_elim (λ crosses.
    subst Found (sym (crossing-choice b whole wholes true crosses))
    (crossed-here s whole wholes b first rest aligned before (ends_in-block b (span_of whole) crosses)))
    (λ passed.
    subst Found (sym (crossing-choice b whole wholes false passed))
    (⊎_elim (λ early. widen s whole wholes b (crossing_end b (spans_of wholes)) before (crossing-cases whole.end wholes b first.place rest aligned early))
    (λ late.
    subst Found (sym (crosses-none whole.end wholes b first.place rest aligned late))
    (crossed-late s whole wholes b first rest aligned before passed late))
    (cases_lt whole.end b))) (cases_Bool (ends_in b (span_of whole)))

-- None of the boundaries stands in the block, or the first one from b on does, at that offset.
abbrev pub TellsFirst : ℕ → List Whole → ℕ → ℕ → Type 0
TellsFirst s wholes b first = ((first ≡ 0) × IsEmptyOf s wholes b) ⊎ StartsAt s wholes b first

from-crossed : (s : ℕ) (wholes : List Whole) (b : ℕ) (found : Option ℕ) → Crossed s wholes b found
    → TellsFirst s wholes b (elim found [ None ↦ 0 | Some end ↦ end - b ])
from-crossed s wholes b None empty = inl (refl, empty)
from-crossed s wholes b (Some end) (low, starts) = inr starts

start-of-block : (s b : ℕ) → IsAtDataStart s → (b == block_of s) ≡ true → b + 12 ≡ s
start-of-block s b start same = grind (arith, nat_tests)

behind-block : (s b : ℕ) → IsAtDataStart s → b % 512 ≡ 0 → block_of s ≤ b → (b == block_of s) ≡ false → s < b
behind-block s b start aligned from other = grind (arith, nat_tests)

starts-here : (s : ℕ) (wholes : List Whole) (b : ℕ) → IsDataLsn s → IsRunOf s wholes → b + 12 ≡ s → StartsAt s wholes b 12
starts-here s wholes b place run at =
    let is : IsLeast s wholes b s = record {
      boundary = boundary-start s (spans_of wholes);
      from = omega arith;
      least = λ n is from. (boundary-reached s wholes n place run is).behind;
    } in
    record { some = omega arith; inside = omega arith; least = subst (λ (m : ℕ). IsLeast s wholes b m) (sym at) is }

pub first-tells : (s : ℕ) (wholes : List Whole) (b : ℕ) → IsAtDataStart s → IsRunOf s wholes → b % 512 ≡ 0 → block_of s ≤ b
    → TellsFirst s wholes b (first_at s (spans_of wholes) b)
unfolding first_at
first-tells s wholes b start run aligned from =
    let place : IsDataLsn s = data-start s start in
    let other : ℕ = elim (crossing_end b (spans_of wholes)) [ None ↦ 0 | Some end ↦ end - b ] in
    ⊎_elim (λ same.
    subst (λ test. TellsFirst s wholes b (cond test 12 other)) (sym same) (inr (starts-here s wholes b place run (start-of-block s b start same))))
    (λ later.
    subst (λ test. TellsFirst s wholes b (cond test 12 other)) (sym later)
    (from-crossed s wholes b (crossing_end b (spans_of wholes)) (crossing-cases s wholes b place run aligned (behind-block s b start aligned from later))))
    (cases_Bool (b == block_of s))

-- A LONGER RUN

-- the crossing group is found among the old ones
crossing-longer : (s : ℕ) (wholes more : List Whole) (b : ℕ) → IsDataLsn s → IsRunOf s (wholes ++ more) → b % 512 ≡ 0 → b ≤ last_span_end s (spans_of wholes)
    → crossing_end b (spans_of (wholes ++ more)) ≡ crossing_end b (spans_of wholes)
crossing-longer s [] more b place run aligned low = crosses-none s more b place run aligned low
crossing-longer s (whole ∷ wholes) more b place run aligned low =
    let first : First s whole = first-of s whole (wholes ++ more) place run in
    ap (cond (ends_in b (span_of whole)) (Some whole.end)) (crossing-longer whole.end wholes more b first.place (run-first run).2 aligned low)

pub first_at-longer : (s : ℕ) (wholes more : List Whole) (b : ℕ) → IsDataLsn s → IsRunOf s (wholes ++ more) → b % 512 ≡ 0 → b ≤ last_span_end s (spans_of wholes)
    → first_at s (spans_of wholes) b ≡ first_at s (spans_of (wholes ++ more)) b
unfolding first_at
first_at-longer s wholes more b place run aligned low =
    ap (λ (found : Option ℕ). cond (b == block_of s) 12 (elim found [ None ↦ 0 | Some end ↦ end - b ])) (sym (crossing-longer s wholes more b place run aligned low))
