-- Where the turns are spent, a line of the least user that hasn't ended isn't answered, and each lower user has all of its
-- lines answered, or has met a failure.
use Rattle.std.proofs.Common.{List, Some, [], ap, arith, inl, inr, length, refl, slice_get, subst, suc, sym, zero, ℕ, ⊎_elim, ◌<◌, ◌∙◌, ◌∷◌, ◌≡◌, ◌≤◌, ◌⊎◌}
use lib.ListN.{get_elem?}
use native.Mathlib.Decide.{dec_le, ℕ_discrete}
use Rattle.model_base.specs.declared.shape.Shape.{Shape}
use Rattle.model_core.specs.{Actor, SharedWords, UserState, LogSide, Setup}
use Rattle.model_running.proofs.Legality.{counts, lost_unanswered, ranked, unanswered_lost}
use Rattle.model_running.proofs.Losses.{answered_is, open_line}
use Rattle.model_running.specs.Histories.{history_of}
use Rattle.model_running.specs.OpenLines.{IsAllAnswered, LeavesOpen}
use Rattle.model_running.specs.Script.{HasSeats, IsOfScript}
use Rattle.model_report.specs.{entries_of_user, lines_of_user}
use Rattle.model_report.specs.declared.entry.Entry.{Entry}
use Rattle.model_report.specs.declared.entry.Marks.{Marks}
use Rattle.model_report.specs.declared.entry.State.TheVariants.{Lost}
use Rattle.model_logcore.proofs.UserGroups.{count_front, none_of}
use Rattle.model_logcore.specs.{count_of, LogGhost, UserAt, UserFits, LogHalf}
use Rattle.model_running.specs.Schedule.{HasEnded}
use Rattle.model_script.specs.declared.script.ScriptLine.{ScriptLine}
use Rattle.model_core.specs.declared.steps.UserStep.TheVariants as user_step
use Rattle.model_core.specs.States as actor
use mathlib.Core.Option as maybe

-- a user that is counted has a group
found_of : (v : ℕ) (log : List actor.Entry) → 0 < count_of v log → (i : ℕ) × (e : actor.Entry) × (get_elem? log i ≡ maybe.some e) × (e.user ≡ v)
found_of v [] more = absurd (omega arith)
found_of v (x ∷ xs) more = elim (ℕ_discrete x.user v) [
  | yes own ↦ (zero, x, refl, own)
  | no other ↦ (let r = found_of v xs (let z = none_of v x other in omega arith) in (suc r.0, r.1, r.2, r.3))
]

module _ (D : LogSide) (c : Setup) (m : SharedWords) (g : LogGhost) (p : D.Part) (actors : List Actor) (half : LogHalf D c m g p actors) (marks : Marks) where
  -- the line in hand, or the next one, of a user has no entry or a lost one
  unanswered_line : (seat : ℕ) (u : UserState) → get_elem? actors seat ≡ maybe.some (actor.User u) → (i : ℕ) (one : Entry)
      → slice_get (entries_of_user u.user (history_of g.answered marks g.log)) i ≡ Some one → one.k ≡ u.k → one.state ≡ Lost
  unanswered_line seat u at i one found line =
      let r = ranked g.answered marks u.user i g.log one found in
      let k : r.group.k ≡ one.k = ap (λ (z : Entry). z.k) r.entry_is in
      let a : g.answered r.group.user ≡ u.k = ap g.answered r.own ∙ answered_is D c m g p actors half seat u at in
      sym (ap (λ (z : Entry). z.state) r.entry_is) ∙ unanswered_lost (g.answered r.group.user) marks r.group (omega arith)

  -- so many of a user's commits are answered as have a group: none of them is lost
  none_lost : (v : ℕ) → count_of v g.log ≤ g.answered v → (i : ℕ) (one : Entry) → slice_get (entries_of_user v (history_of g.answered marks g.log)) i ≡ Some one → one.state ≡ Lost → ⊥
  none_lost v all i one found lost =
      let r = ranked g.answered marks v i g.log one found in
      let n = lost_unanswered (g.answered r.group.user) marks r.group (ap (λ (z : Entry). z.state) r.entry_is ∙ lost) in
      let rank = half.global.tiled.ranks r.place r.group r.is in
      let front = count_front g.log r.place r.group r.is in
      let a : g.answered r.group.user ≡ g.answered v = ap g.answered r.own in
      let f : count_of r.group.user g.log ≡ count_of v g.log = ap (λ (u : ℕ). count_of u g.log) r.own in
      omega arith

  module _ (script : List ScriptLine) (shape : Shape) (S : IsOfScript c script shape) (seats : HasSeats script actors) where
    -- a user that has no line has no group
    without_lines : (v : ℕ) → length (lines_of_user v script) ≡ 0 → count_of v g.log ≡ 0
    without_lines v none = elim (dec_le 1 (count_of v g.log)) [
      | yes some ↦ (let r = found_of v g.log some in
          let l = half.global.tiled.lines r.0 r.1 r.2 in
          let n : length (c.script r.1.user) ≡ length (c.script v) = ap (λ (u : ℕ). length (c.script u)) r.3 in
          let s = S.count v in
          absurd (omega (arith, l.0)))
      | no few ↦ omega arith
    ]

    -- a user that ended by its last commit has all its lines answered; one that ended otherwise has met a failure
    ended_answers : (P : Type 0) → (0 < m.failed → P) → (v seat : ℕ) (u : UserState) → get_elem? actors seat ≡ maybe.some (actor.User u) → u.user ≡ v → HasEnded u
        → IsAllAnswered script (history_of g.answered marks g.log) v ⊎ P
    ended_answers P met v seat u at own ended =
        let f : UserFits D c m g p seat u = half.each seat (actor.User u) at in
        let count : count_of v g.log ≡ length u.starts = sym (ap (λ (x : ℕ). count_of x g.log) own) ∙ f.counted in
        let l : length u.lines ≡ length (c.script v) = ap length (f.lines ∙ ap c.script own) in
        let a : g.answered v ≡ u.k = sym (ap g.answered own) ∙ f.answers in
        let s = S.count v in
        let n = counts g.answered marks v g.log in
        ⊎_elim (λ done. let z : UserAt D c m g p seat u user_step.Done = subst (UserAt D c m g p seat u) done f.step in
        let starts = z.0 in let all = z.1 in inl (record { all_reserved = omega arith; none_lost = none_lost v (omega arith) }))
        (λ failed. let z : UserAt D c m g p seat u user_step.Failed = subst (UserAt D c m g p seat u) failed f.step in inr (met z.1))
        ended

    pub leaves_open : (P : Type 0) → (0 < m.failed → P) → (user seat : ℕ) (u : UserState) → get_elem? actors seat ≡ maybe.some (actor.User u) → u.user ≡ user → (HasEnded u → ⊥)
        → ((j : ℕ) (other : UserState) → get_elem? actors j ≡ maybe.some (actor.User other) → other.user < user → HasEnded other)
        → LeavesOpen script (history_of g.answered marks g.log) P user
    leaves_open P met user seat u at own open_user least = record {
      line = u.k;
      is_line = (let k = open_line D c m g p actors half seat u at open_user in
          let s = S.count user in
          let n : length (c.script u.user) ≡ length (c.script user) = ap (λ (v : ℕ). length (c.script v)) own in
          omega arith);
      unanswered = λ i one found line.
          unanswered_line seat u at i one (subst (λ (v : ℕ). slice_get (entries_of_user v (history_of g.answered marks g.log)) i ≡ Some one) (sym own) found) line;
      least = λ lower below. elim (dec_le 1 (length (lines_of_user lower script))) [
        | yes some ↦ (let r = seats lower some in ended_answers P met lower r.0 r.1 r.2 r.3 (least r.0 r.1 r.2 (let e = r.3 in omega arith)))
        | no few ↦ (let none = without_lines lower (omega arith) in
            let n = counts g.answered marks lower g.log in
            inl (record { all_reserved = omega arith; none_lost = none_lost lower (omega arith) }))
      ];
    }
