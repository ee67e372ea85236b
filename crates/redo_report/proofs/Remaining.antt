-- What is left of a script, counted in a map.
use Rattle.std.proofs.Common.{◌≡◌, ℕ, zero, suc, ◌+◌, ◌-◌, ◌<◌, ◌≤◌, ◌==◌, Bool, true, false, cond, List, [], ◌∷◌, length, take, get_or, Option, Some, arith, refl, sym, ap, ◌∙◌}
use Rattle.std.proofs.lemmas.List.Filters.{length-filter_more}
use Rattle.std.proofs.lemmas.Bool.Decides.{nat_tests}
use Rattle.std.specs.BTreeMap.{is_at}
use Rattle.std.specs.Option.{unwrap_or}
use Rattle.std.specs.Ordering.{nat_cmp}
use Rattle.model_script.specs.declared.script.ScriptLine.{ScriptLine}
use Rattle.model_report.specs.{entries_of_user, lines_of_user}
use Rattle.model_report.specs.declared.entry.Entry.{Entry}

pub lines-few : (user i : ℕ) (script : List ScriptLine) → i ≤ length script → length (lines_of_user user (take i script)) ≤ i
lines-few user zero script below = omega arith
lines-few user (suc i) [] below = omega arith
lines-few user (suc i) (line ∷ script) below = by-test (line.user == user) (lines-few user i script (omega arith)) where
  by-test : (b : Bool) → length (lines_of_user user (take i script)) ≤ i
      → length (cond b (line ∷ lines_of_user user (take i script)) (lines_of_user user (take i script))) ≤ suc i
  by-test true low = omega arith
  by-test false low = omega arith

pub entries-more : (user i : ℕ) (entries : List Entry) (entry none : Entry) → i < length entries → entry ≡ get_or entries i none
    → length (entries_of_user user (take (i + 1) entries)) ≡ length (entries_of_user user (take i entries)) + cond (entry.user == user) 1 0
entries-more user i entries entry none below at =
    length-filter_more (λ (one : Entry). one.user == user) entries i none below
    ∙ ap (λ (one : Entry). length (entries_of_user user (take i entries)) + cond (one.user == user) 1 0) (sym at)

-- a query compares equal to its own key alone
pub at-same : (u q : ℕ) → is_at (nat_cmp u) q ≡ (u == q)
at-same u q = grind (arith, nat_tests)

pub same-key : (u q : ℕ) → (u == q) ≡ true → u ≡ q
same-key u q is = grind (arith, nat_tests)

-- one entry more takes one line off its user
pub left-step : (new old : Option ℕ) (b : Bool) (count lines entries more : ℕ) → new ≡ cond b (Some (count - 1)) old → (b ≡ true → count ≡ unwrap_or old 0)
    → unwrap_or old 0 ≡ lines - entries → more ≡ entries + cond b 1 0 → unwrap_or new 0 ≡ lines - more
left-step new old true count lines entries more is own was more_is =
    ap (λ o. unwrap_or o 0) is ∙ (let mine : count ≡ unwrap_or old 0 = own refl in omega arith)
left-step new old false count lines entries more is own was more_is =
    ap (λ o. unwrap_or o 0) is ∙ (let none : more ≡ entries = omega arith in was ∙ ap (λ n. lines - n) (sym none))
