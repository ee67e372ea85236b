-- A run has no more groups than its script has lines.
use Rattle.std.proofs.Common.{Bool, List, [], ap, arith, cond, eqb, false, length, ne_eqb, refl, suc, take, true, ℕ, ◌+◌, ◌<◌, ◌∙◌, ◌∷◌, ◌≡◌, ◌≤◌}
use lib.ListN.{get_elem?}
use mathlib.Core.Option.{some}
use native.Mathlib.Decide.{ℕ_discrete}
use Rattle.model_base.specs.declared.shape.Shape.{Shape}
use Rattle.model_core.specs.{Entry, Setup}
use Rattle.model_running.specs.{IsOfScript}
use Rattle.model_report.specs.{lines_of_user}
use Rattle.model_logcore.proofs.UserGroups.{none_of, one_of}
use Rattle.model_logcore.specs.{count_of, Place, Tiled}
use Rattle.model_script.specs.declared.script.ScriptLine.{ScriptLine}

-- of each group that many of its user's come before as its rank says, and its rank is below the user's limit
below_limit : (limit : ℕ → ℕ) (user : ℕ) (log : List Entry) (before : ℕ → ℕ) → before user ≤ limit user
    → ((i : ℕ) (e : Entry) → get_elem? log i ≡ some e → e.k ≡ before e.user + count_of e.user (take i log)) → ((i : ℕ) (e : Entry) → get_elem? log i ≡ some e → e.k < limit e.user)
    → before user + count_of user log ≤ limit user
below_limit limit user [] before start ranks lines = omega arith
below_limit limit user (x ∷ xs) before start ranks lines =
    let first : x.k ≡ before x.user + 0 = ranks 0 x refl in
    let line : x.k < limit x.user = lines 0 x refl in
    let here : before user + cond (eqb x.user user) 1 0 ≤ limit user = elim (ℕ_discrete x.user user) [
      | yes same ↦ (let n = one_of user x same in let b : before x.user ≡ before user = ap before same in let l : limit x.user ≡ limit user = ap limit same in omega arith)
      | no other ↦ (let n = none_of user x other in omega arith)
    ] in
    let rest : before user + cond (eqb x.user user) 1 0 + count_of user xs ≤ limit user =
    below_limit limit user xs (λ v. before v + cond (eqb x.user v) 1 0) here (λ i e is. let r : e.k ≡ before e.user + (cond (eqb x.user e.user) 1 0 + count_of e.user (take i xs)) = ranks (suc i) e is in omega arith) (λ i e is. lines (suc i) e is) in
    omega arith

-- a line more of the script is one more of its user
line_more : (user : ℕ) (x : ScriptLine) (xs : List ScriptLine) → length (lines_of_user user (x ∷ xs)) ≡ cond (eqb x.user user) 1 0 + length (lines_of_user user xs)
line_more user x xs = by (eqb x.user user)
  where
    by : (b : Bool) → length (cond b (x ∷ lines_of_user user xs) (lines_of_user user xs)) ≡ cond b 1 0 + length (lines_of_user user xs)
    by true = omega arith
    by false = omega arith

-- the script without one line of the user
record Without (user : ℕ) (script : List ScriptLine) : Type 0 where
  pub rest : List ScriptLine
  pub one_less : length script ≡ suc (length rest)
  pub counts : (v : ℕ) → length (lines_of_user v script) ≡ cond (eqb user v) 1 0 + length (lines_of_user v rest)

without : (user : ℕ) (script : List ScriptLine) → 0 < length (lines_of_user user script) → Without user script
without user [] has_line = absurd (omega arith)
without user (x ∷ xs) has_line = elim (ℕ_discrete x.user user) [
  | yes same ↦ record {
    rest = xs;
    one_less = refl;
    counts = λ v. line_more v x xs ∙ ap (λ (u : ℕ). let k : ℕ = cond (eqb u v) 1 0 in k + length (lines_of_user v xs)) same;
  }
  | no other ↦ (let none : ◌≡◌ {A = ℕ} (cond (eqb x.user user) 1 0) 0 = ap (λ (b : Bool). let k : ℕ = cond b 1 0 in k) (ne_eqb x.user user other) in
      let more = line_more user x xs in
      let r = without user xs (omega arith) in
      record {
        rest = x ∷ r.rest;
        one_less = ap suc r.one_less;
        counts = λ v. (let a = line_more v x xs in let b = r.counts v in let d = line_more v x r.rest in omega arith);
      })
]

-- where each user has no more groups than lines, there are no more groups than lines
no_more : (log : List Entry) (script : List ScriptLine) → ((user : ℕ) → count_of user log ≤ length (lines_of_user user script)) → length log ≤ length script
no_more [] script each = omega arith
no_more (x ∷ xs) script each =
    let one = one_of x.user x refl in
    let here : cond (eqb x.user x.user) 1 0 + count_of x.user xs ≤ length (lines_of_user x.user script) = each x.user in
    let w = without x.user script (omega arith) in
    let less = w.one_less in
    let rest = no_more xs w.rest (λ v. let e : cond (eqb x.user v) 1 0 + count_of v xs ≤ length (lines_of_user v script) = each v in let n = w.counts v in omega arith) in
    omega arith

pub log_within_script : (c : Setup) (script : List ScriptLine) (shape : Shape) (sn : ℕ) (log : List Entry) (place : ℕ → Place) → Tiled c sn log place → IsOfScript c script shape → length log ≤ length script
log_within_script c script shape sn log place T S =
    no_more log script (λ user. let n = below_limit (λ v. length (c.script v)) user log (λ v. 0) (omega arith) (λ i e is. let r = T.ranks i e is in omega arith) (λ i e is. (T.lines i e is).0) in let s = S.count user in omega arith)
