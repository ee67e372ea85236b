-- Of every script and every history something is left, if only nothing.
use Rattle.std.proofs.Common.{ℕ, zero, suc, ◌≡◌, ◌≤◌, ◌<◌, ◌+◌, ◌-◌, ◌==◌, Bool, true, false, cond, List, [], ◌∷◌, length, slice_get, Some, refl, sym, ap, subst, ◌∙◌, ⊎_elim, arith}
use Rattle.std.specs.Prelude.{nat_lt}
use Rattle.std.proofs.lemmas.Bool.{cases_lt}
use Rattle.std.proofs.lemmas.Bool.Decides.{nat_tests}
use Rattle.model_report.specs.{entries_of_user, HasLeft, IsLeft, lines_of_user}
use Rattle.model_report.specs.declared.entry.Entry.{Entry}
use Rattle.model_script.specs.declared.script.ScriptLine.{ScriptLine}

-- of so many users, from one on, those of which something is counted
abbrev some_from : (ℕ → ℕ) → (from n : ℕ) → List (ℕ × ℕ)
some_from count from zero = []
some_from count from (suc n) = cond (nat_lt 0 (count from)) ((from, count from) ∷ some_from count (suc from) n) (some_from count (suc from) n)

-- a user of these, with its count
record IsCounted (count : ℕ → ℕ) (from : ℕ) (pair : ℕ × ℕ) : Type 0 where
  above : from ≤ pair.0
  same : pair.1 ≡ count pair.0
  some : 0 < pair.1

counted-at : (count : ℕ → ℕ) (from n i : ℕ) (pair : ℕ × ℕ) → slice_get (some_from count from n) i ≡ Some pair → IsCounted count from pair
counted-at count from zero i pair at = absurd (cc)
counted-at count from (suc n) i pair at = by-test (nat_lt 0 (count from)) refl at (λ j later. counted-at count (suc from) n j pair later) where
  by-test : (b : Bool) → nat_lt 0 (count from) ≡ b
      → slice_get (cond b ((from, count from) ∷ some_from count (suc from) n) (some_from count (suc from) n)) i ≡ Some pair
      → ((j : ℕ) → slice_get (some_from count (suc from) n) j ≡ Some pair → IsCounted count (suc from) pair) → IsCounted count from pair
  by-test true own here rest = by-place i here where
    by-place : (j : ℕ) → slice_get ((from, count from) ∷ some_from count (suc from) n) j ≡ Some pair → IsCounted count from pair
    by-place zero first =
        let same : (from, count from) ≡ pair = cc in
        let some : 0 < count from = grind (arith, nat_tests) in
        subst (IsCounted count from) same (record { above = omega arith; same = refl; some = some })
    by-place (suc j) later = let is = rest j later in record { above = omega (arith, is.above); same = is.same; some = is.some }
  by-test false other here rest = let is = rest i here in record { above = omega (arith, is.above); same = is.same; some = is.some }

counted-ascend : (count : ℕ → ℕ) (from n i : ℕ) (first second : ℕ × ℕ) → slice_get (some_from count from n) i ≡ Some first
    → slice_get (some_from count from n) (suc i) ≡ Some second → first.0 < second.0
counted-ascend count from zero i first second at next = absurd (cc)
counted-ascend count from (suc n) i first second at next =
    by-test (nat_lt 0 (count from)) at next (λ j here later. counted-ascend count (suc from) n j first second here later) where
      by-test : (b : Bool) → slice_get (cond b ((from, count from) ∷ some_from count (suc from) n) (some_from count (suc from) n)) i ≡ Some first
          → slice_get (cond b ((from, count from) ∷ some_from count (suc from) n) (some_from count (suc from) n)) (suc i) ≡ Some second
          → ((j : ℕ) → slice_get (some_from count (suc from) n) j ≡ Some first → slice_get (some_from count (suc from) n) (suc j) ≡ Some second → first.0 < second.0)
          → first.0 < second.0
      by-test true here there rest = by-place i here there where
        by-place : (j : ℕ) → slice_get ((from, count from) ∷ some_from count (suc from) n) j ≡ Some first
            → slice_get ((from, count from) ∷ some_from count (suc from) n) (suc j) ≡ Some second → first.0 < second.0
        by-place zero head later =
            let same : (from, count from) ≡ first = cc in
            let is = counted-at count (suc from) n 0 second later in
            omega (arith, is.above, ap (λ (p : ℕ × ℕ). p.0) same)
        by-place (suc j) head later = rest j head later
      by-test false here there rest = rest i here there

counted-place : (count : ℕ → ℕ) (from n user : ℕ) → from ≤ user → user < from + n → 0 < count user
    → (i : ℕ) × (slice_get (some_from count from n) i ≡ Some (user, count user))
counted-place count from zero user above below some = absurd (omega arith)
counted-place count from (suc n) user above below some =
    by-user (user == from) refl (λ apart. counted-place count (suc from) n user apart (omega arith) some) where
      keep : (b : Bool) (i : ℕ) → slice_get (some_from count (suc from) n) i ≡ Some (user, count user)
          → (j : ℕ) × (slice_get (cond b ((from, count from) ∷ some_from count (suc from) n) (some_from count (suc from) n)) j ≡ Some (user, count user))
      keep true i at = (suc i, at)
      keep false i at = (i, at)

      by-user : (b : Bool) → (user == from) ≡ b → (suc from ≤ user → (i : ℕ) × (slice_get (some_from count (suc from) n) i ≡ Some (user, count user)))
          → (i : ℕ) × (slice_get (some_from count from (suc n)) i ≡ Some (user, count user))
      by-user true own rest =
          let same : user ≡ from = grind (arith, nat_tests) in
          let kept : nat_lt 0 (count from) ≡ true = subst (λ (u : ℕ). nat_lt 0 (count u) ≡ true) same (grind (arith, nat_tests)) in (
            0,
            ap (λ t. slice_get (cond t ((from, count from) ∷ some_from count (suc from) n) (some_from count (suc from) n)) 0) kept
                ∙ ap (λ (u : ℕ). Some (u, count u)) (sym same),
          )
      by-user false other rest =
          let apart : suc from ≤ user = grind (arith, nat_tests) in
          let place = rest apart in
          keep (nat_lt 0 (count from)) place.0 place.1

-- a number above those of all users of a script
abbrev users_below : List ScriptLine → ℕ
users_below [] = 0
users_below (line ∷ script) = suc line.user + users_below script

no-lines : (user : ℕ) (script : List ScriptLine) → users_below script ≤ user → length (lines_of_user user script) ≡ 0
no-lines user [] above = refl
no-lines user (line ∷ script) above =
    let other : (line.user == user) ≡ false = grind (arith, nat_tests) in
    ap (λ t. length (cond t (line ∷ lines_of_user user script) (lines_of_user user script))) other ∙ no-lines user script (omega arith)

-- how many lines of a user are more than its entries
abbrev left_count : List ScriptLine → List Entry → ℕ → ℕ
left_count script entries user = length (lines_of_user user script) - length (entries_of_user user entries)

left-below : (script : List ScriptLine) (entries : List Entry) (user count : ℕ) → 0 < count → HasLeft script entries user count → user < users_below script
left-below script entries user count some has = ⊎_elim (λ below. below)
    (λ above. absurd (omega (arith, has, no-lines user script above))) (cases_lt user (users_below script))

-- SOMETHING IS LEFT.
pub some-left : (script : List ScriptLine) (entries : List Entry) → (left : List (ℕ × ℕ)) × IsLeft script entries left
some-left script entries =
    let count = left_count script entries in
    let n = users_below script in (
      some_from count 0 n,
      record {
        ascending = λ i first second at next. counted-ascend count 0 n i first second at next;
        some = λ i pair at. (counted-at count 0 n i pair at).some;
        counts = λ i pair at. (let is = counted-at count 0 n i pair at in omega (arith, is.same, is.some));
        no_other = λ user left some has.
            (let same : left_count script entries user ≡ left = omega (arith, has) in
            let more : 0 < left_count script entries user = omega (arith, same) in
            let place = counted-place count 0 n user (omega arith) (omega (arith, left-below script entries user left some has)) more in
            (place.0, place.1 ∙ ap (λ (m : ℕ). Some (user, m)) same));
      },
    )
