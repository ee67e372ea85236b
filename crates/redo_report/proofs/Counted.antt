-- A map of counts in the order of its keys, as the list of what is left.
use Rattle.std.proofs.Common.{◌≡◌, ℕ, zero, suc, ◌-◌, ◌<◌, ◌==◌, Bool, true, false, cond, List, [], ◌∷◌, length, filter, slice_get, Option, Some, None, arith, refl, sym, ap, ◌∙◌}
use Rattle.std.specs.Prelude.{nat_lt}
use Rattle.std.specs.BTreeMap.{BTreeMap, IsOrdered, is_at}
use Rattle.std.specs.List.{AllByRecursion}
use Rattle.std.specs.List.Sorted.{IsStrictlySortedBy}
use Rattle.std.specs.Map.{keys_of, lookup}
use Rattle.std.specs.Option.{unwrap_or}
use Rattle.std.specs.Ordering.{nat_cmp}
use Rattle.std.specs.declared.cmp.Ordering.TheVariants.{Less}
use Rattle.std.proofs.lemmas.Bool.{eq-eqb}
use Rattle.std.proofs.lemmas.Bool.Decides.{nat_tests}
use Rattle.std.proofs.lemmas.Cmp.{ranked}
use Rattle.model_script.specs.declared.script.ScriptLine.{ScriptLine}
use Rattle.model_report.specs.{entries_of_user, IsLeft, lines_of_user}
use Rattle.model_report.specs.declared.entry.Entry.{Entry}
use Rattle.model_report.proofs.Filters.{filter-place}
use Rattle.model_report.proofs.Groups.{all-at}
use Rattle.redo_report.specs.Left.{CountsLeft}
use Rattle.redo_report.proofs.Remaining.{at-same, same-key}

-- something is counted
abbrev pub is_some_count : ℕ × ℕ → Bool
is_some_count pair = nat_lt 0 pair.1

-- THE ORDER of the keys
abbrev Ascends : List (ℕ × ℕ) → Type 0
Ascends [] = Unit {0}
Ascends (pair ∷ pairs) = AllByRecursion (λ (other : ℕ × ℕ). pair.0 < other.0) pairs × Ascends pairs

less-from : (x y : ℕ) → nat_cmp x y ≡ Less → x < y
less-from x y is = ranked x y Less (sym is)

all-less : (key : ℕ) (pairs : List (ℕ × ℕ)) → AllByRecursion (λ (other : ℕ). nat_cmp key other ≡ Less) (keys_of pairs) → AllByRecursion (λ (other : ℕ × ℕ). key < other.0) pairs
all-less key [] all = tt
all-less key (pair ∷ pairs) all = (less-from key pair.0 all.0, all-less key pairs all.1)

ascends-from : (pairs : List (ℕ × ℕ)) → IsStrictlySortedBy nat_cmp (keys_of pairs) → Ascends pairs
unfolding IsStrictlySortedBy
ascends-from [] sorted = tt
ascends-from (pair ∷ pairs) sorted = (all-less pair.0 pairs sorted.0, ascends-from pairs sorted.1)

all-filtered : (P : ℕ × ℕ → Type 0) (test : ℕ × ℕ → Bool) (pairs : List (ℕ × ℕ)) → AllByRecursion P pairs → AllByRecursion P (filter test pairs)
all-filtered P test [] all = tt
all-filtered P test (pair ∷ pairs) all = by-test (test pair) (all-filtered P test pairs all.1) where
  by-test : (b : Bool) → AllByRecursion P (filter test pairs) → AllByRecursion P (cond b (pair ∷ filter test pairs) (filter test pairs))
  by-test true rest = (all.0, rest)
  by-test false rest = rest

ascends-filtered : (test : ℕ × ℕ → Bool) (pairs : List (ℕ × ℕ)) → Ascends pairs → Ascends (filter test pairs)
ascends-filtered test [] ascends = tt
ascends-filtered test (pair ∷ pairs) ascends = by-test (test pair) (ascends-filtered test pairs ascends.1) where
  by-test : (b : Bool) → Ascends (filter test pairs) → Ascends (cond b (pair ∷ filter test pairs) (filter test pairs))
  by-test true rest = (all-filtered (λ (other : ℕ × ℕ). pair.0 < other.0) test pairs ascends.0, rest)
  by-test false rest = rest

neighbours : (i : ℕ) (pairs : List (ℕ × ℕ)) (first second : ℕ × ℕ) → Ascends pairs → slice_get pairs i ≡ Some first → slice_get pairs (suc i) ≡ Some second → first.0 < second.0
neighbours i [] first second ascends at next = absurd (cc)
neighbours zero (pair ∷ []) first second ascends at next = absurd (cc)
neighbours zero (pair ∷ other ∷ pairs) first second ascends at next =
    let here : pair ≡ first = cc in
    let there : other ≡ second = cc in
    let less : pair.0 < other.0 = ascends.0.0 in
    omega (arith, ap (λ (p : ℕ × ℕ). p.0) here, ap (λ (p : ℕ × ℕ). p.0) there)
neighbours (suc i) (pair ∷ pairs) first second ascends at next = neighbours i pairs first second ascends.1 at next

-- WHAT IS FOUND at a key
found-at : (i : ℕ) (pairs : List (ℕ × ℕ)) (pair : ℕ × ℕ) → Ascends pairs → slice_get pairs i ≡ Some pair → lookup (is_at (nat_cmp pair.0)) pairs ≡ Some pair.1
found-at i [] pair ascends at = absurd (cc)
found-at zero (first ∷ pairs) pair ascends at =
    let here : first ≡ pair = cc in
    let test : is_at (nat_cmp pair.0) first.0 ≡ true = at-same pair.0 first.0 ∙ eq-eqb pair.0 first.0 (sym (ap (λ (p : ℕ × ℕ). p.0) here)) in
    ap (λ t. cond t (Some first.1) (lookup (is_at (nat_cmp pair.0)) pairs)) test ∙ ap (λ (p : ℕ × ℕ). Some p.1) here
found-at (suc i) (first ∷ pairs) pair ascends at =
    let less : first.0 < pair.0 = all-at (λ (other : ℕ × ℕ). first.0 < other.0) pairs i pair ascends.0 at in
    let apart : (pair.0 == first.0) ≡ false = grind (arith, nat_tests) in
    ap (λ t. cond t (Some first.1) (lookup (is_at (nat_cmp pair.0)) pairs)) (at-same pair.0 first.0 ∙ apart) ∙ found-at i pairs pair ascends.1 at

place-of : (key count : ℕ) (pairs : List (ℕ × ℕ)) → lookup (is_at (nat_cmp key)) pairs ≡ Some count → (i : ℕ) × (slice_get pairs i ≡ Some (key, count))
place-of key count [] found = absurd (cc)
place-of key count (pair ∷ pairs) found = by-test (key == pair.0) refl (λ later. place-of key count pairs later) where
  by-test : (b : Bool) → (key == pair.0) ≡ b → (lookup (is_at (nat_cmp key)) pairs ≡ Some count → (i : ℕ) × (slice_get pairs i ≡ Some (key, count)))
      → (i : ℕ) × (slice_get (pair ∷ pairs) i ≡ Some (key, count))
  by-test true own others =
      let is : Some pair.1 ≡ Some count = sym (ap (λ t. cond t (Some pair.1) (lookup (is_at (nat_cmp key)) pairs)) (at-same key pair.0 ∙ own)) ∙ found in
      let same : pair.1 ≡ count = cc in
      let mine : pair.0 ≡ key = sym (same-key key pair.0 own) in
      (0, (λ i. Some (mine i, same i)))
  by-test false other others =
      let rest = others (sym (ap (λ t. cond t (Some pair.1) (lookup (is_at (nat_cmp key)) pairs)) (at-same key pair.0 ∙ other)) ∙ found) in
      (suc rest.0, rest.1)

-- a pair that passes stands among those that do
place-filtered : (test : ℕ × ℕ → Bool) (i : ℕ) (pairs : List (ℕ × ℕ)) (pair : ℕ × ℕ) → slice_get pairs i ≡ Some pair → test pair ≡ true
    → (j : ℕ) × (slice_get (filter test pairs) j ≡ Some pair)
place-filtered test i [] pair at passes = absurd (cc)
place-filtered test zero (first ∷ pairs) pair at passes =
    let here : first ≡ pair = cc in
    let own : test first ≡ true = ap test here ∙ passes in
    (0, ap (λ b. slice_get (cond b (first ∷ filter test pairs) (filter test pairs)) 0) own ∙ ap Some here)
place-filtered test (suc i) (first ∷ pairs) pair at passes = by-test (test first) refl (place-filtered test i pairs pair at passes) where
  by-test : (b : Bool) → test first ≡ b → (j : ℕ) × (slice_get (filter test pairs) j ≡ Some pair) → (j : ℕ) × (slice_get (filter test (first ∷ pairs)) j ≡ Some pair)
  by-test true own rest = (suc rest.0, ap (λ b. slice_get (cond b (first ∷ filter test pairs) (filter test pairs)) (suc rest.0)) own ∙ rest.1)
  by-test false other rest = (rest.0, ap (λ b. slice_get (cond b (first ∷ filter test pairs) (filter test pairs)) rest.0) other ∙ rest.1)

all-pass : (test : ℕ × ℕ → Bool) (pairs : List (ℕ × ℕ)) → AllByRecursion (λ (pair : ℕ × ℕ). test pair ≡ true) (filter test pairs)
all-pass test [] = tt
all-pass test (pair ∷ pairs) = by-test (test pair) refl (all-pass test pairs) where
  by-test : (b : Bool) → test pair ≡ b → AllByRecursion (λ (pair : ℕ × ℕ). test pair ≡ true) (filter test pairs)
      → AllByRecursion (λ (pair : ℕ × ℕ). test pair ≡ true) (cond b (pair ∷ filter test pairs) (filter test pairs))
  by-test true own rest = (own, rest)
  by-test false other rest = rest

some-count : (n : ℕ) → nat_lt 0 n ≡ true → 0 < n
some-count n is = grind (arith, nat_tests)

count-some : (n : ℕ) → 0 < n → nat_lt 0 n ≡ true
count-some n some = grind (arith, nat_tests)

found-count : (found : Option ℕ) (n : ℕ) → unwrap_or found 0 ≡ n → 0 < n → found ≡ Some n
found-count None n is some = absurd (omega arith)
found-count (Some v) n is some = ap Some is

-- WHAT IS LEFT
pub left-from : (counts : BTreeMap ℕ ℕ) (script : List ScriptLine) (entries : List Entry) → IsOrdered nat_cmp counts → CountsLeft counts script entries
    → IsLeft script entries (filter is_some_count counts.entries)
left-from counts script entries ordered left =
    let pairs : List (ℕ × ℕ) = counts.entries in
    let ascends : Ascends pairs = ascends-from pairs ordered in
    let passes : (i : ℕ) (pair : ℕ × ℕ) → slice_get (filter is_some_count pairs) i ≡ Some pair → is_some_count pair ≡ true =
    λ i pair at. all-at (λ (pair : ℕ × ℕ). is_some_count pair ≡ true) (filter is_some_count pairs) i pair (all-pass is_some_count pairs) at in
    record {
      ascending = λ i first second at next. neighbours i (filter is_some_count pairs) first second (ascends-filtered is_some_count pairs ascends) at next;
      some = λ i pair at. some-count pair.1 (passes i pair at);
      counts = λ i pair at.
          (let place = filter-place is_some_count pairs i pair at in
          let found = found-at place.0 pairs pair ascends place.1 in
          let some : 0 < pair.1 = some-count pair.1 (passes i pair at) in
          let is : pair.1 ≡ length (lines_of_user pair.0 script) - length (entries_of_user pair.0 entries) = sym (ap (λ o. unwrap_or o 0) found) ∙ left pair.0 in
          omega arith);
      no_other = λ user count some has.
          (let is : unwrap_or (lookup (is_at (nat_cmp user)) pairs) 0 ≡ count = left user ∙ omega (arith, has) in
          let found = found-count (lookup (is_at (nat_cmp user)) pairs) count is some in
          let place = place-of user count pairs found in
          place-filtered is_some_count place.0 pairs (user, count) place.1 (count-some count some));
    }
