-- What is lost at the end of a run, or left, is lost by a user that has met a failure.
use Rattle.std.proofs.Common.{List, Some, [], ap, arith, cond, inl, inr, length, refl, slice_get, subst, suc, sym, ℕ, ⊎_elim, ◌+◌, ◌<◌, ◌==◌, ◌∙◌, ◌∷◌, ◌≡◌, ◌≢◌, ◌≤◌}
use lib.ListN.{get_elem?}
use native.Mathlib.Decide.{dec_le, ℕ_discrete}
use Rattle.model_base.specs.declared.shape.Shape.{Shape}
use Rattle.model_core.specs.{Actor, entries, entries_from, entry, found, Line, line_at, SharedWords, sum_of, UserState, LogSide, Setup}
use Rattle.model_running.proofs.Legality.{counts, from_log, lost_unanswered}
use Rattle.model_running.specs.Histories.{history_of}
use Rattle.model_running.specs.Script.{HasSeats, IsOfScript}
use Rattle.model_report.specs.{entries_of_user, IsLeft, lines_of_user}
use Rattle.model_report.specs.declared.entry.Entry.{Entry}
use Rattle.model_report.specs.declared.entry.Marks.{Marks}
use Rattle.model_report.specs.declared.entry.State.TheVariants.{Lost}
use Rattle.model_logcore.proofs.UserGroups.{count_front, count_some, none_of}
use Rattle.model_logcore.proofs.WriterSteps.{own}
use Rattle.model_logcore.specs.{count_of, LogGhost, sum_over_actors, UserAt, UserFits, LogHalf}
use Rattle.model_running.specs.Schedule.{HasEnded, HaveEnded}
use Rattle.model_script.specs.declared.script.ScriptLine.{ScriptLine}
use Rattle.model_core.specs.declared.steps.UserStep.{UserStep}
use Rattle.model_core.specs.declared.steps.UserStep.TheVariants as user_step
use Rattle.model_core.specs.States as actor
use mathlib.Core.Option as maybe

-- one of the actors has what all have together
seat_from : (h : actor.Entry → ℕ) (actors : List Actor) → 0 < sum_over_actors (λ a. sum_of h (entries a)) actors → (seat : ℕ) × (a : Actor) × (get_elem? actors seat ≡ maybe.some a) × (0 < sum_of h (entries a))
seat_from h [] more = absurd (omega arith)
seat_from h (x ∷ xs) more = elim (dec_le 1 (sum_of h (entries x))) [
  | yes d ↦ (0, x, refl, omega arith)
  | no n ↦ (let r = seat_from h xs (omega arith) in (suc r.0, r.1, r.2, r.3))
]

own_user : (user v : ℕ) (lines : List Line) (k : ℕ) (starts : List ℕ) → 0 < count_of v (entries_from user lines k starts) → user ≡ v
own_user user v lines k [] more = absurd (omega arith)
own_user user v lines k (s ∷ ss) more = elim (ℕ_discrete user v) [
  | yes e ↦ e
  | no n ↦ own_user user v lines (k + 1) ss (let z = none_of v (entry user k s (line_at lines k)) n in omega arith)
]

module _ (D : LogSide) (c : Setup) (m : SharedWords) (g : LogGhost) (p : D.Part) (actors : List Actor) (half : LogHalf D c m g p actors) where
  -- of a user that has a seat, a commit is answered where its line is below the seat's
  pub answered_is : (seat : ℕ) (u : UserState) → get_elem? actors seat ≡ maybe.some (actor.User u) → g.answered u.user ≡ u.k
  answered_is seat u at = let f : UserFits D c m g p seat u = half.each seat (actor.User u) at in f.answers

  module _ (ended_users : HaveEnded actors) where
    ended_here : (v k seat : ℕ) (u : UserState) → get_elem? actors seat ≡ maybe.some (actor.User u) → u.user ≡ v → k < count_of v g.log → g.answered v ≤ k → (u.step ≡ user_step.Failed) × (k ≡ u.k) × (0 < m.failed)
    ended_here v k seat u at own below unanswered =
        let f : UserFits D c m g p seat u = half.each seat (actor.User u) at in
        let a : g.answered v ≡ u.k = sym (ap g.answered own) ∙ f.answers in
        let n : count_of v g.log ≡ length u.starts = sym (ap (λ (x : ℕ). count_of x g.log) own) ∙ f.counted in
        ⊎_elim (λ done. let z : UserAt D c m g p seat u user_step.Done = subst (UserAt D c m g p seat u) done f.step in let y = z.0 in absurd (omega arith))
        (λ failed. let z : UserAt D c m g p seat u user_step.Failed = subst (UserAt D c m g p seat u) failed f.step in let y = z.0 in (failed, omega arith, z.1))
        (ended_users seat u at)

    by_actor : (e : actor.Entry) (k seat : ℕ) (a : Actor) → get_elem? actors seat ≡ maybe.some a → 0 < count_of e.user (entries a) → k < count_of e.user g.log → g.answered e.user ≤ k → 0 < m.failed
    by_actor e k seat (actor.User u) at more below unanswered = (ended_here e.user k seat u at (own_user u.user e.user u.lines 0 u.starts more) below unanswered).2
    by_actor e k seat _ at more below unanswered = absurd (omega arith)

    -- where a group's commit isn't answered its user has met a failure
    pub unanswered_group : (i : ℕ) (e : actor.Entry) → get_elem? g.log i ≡ maybe.some e → g.answered e.user ≤ e.k → 0 < m.failed
    unanswered_group i e is unanswered =
        let more = count_some g.log i e is in
        let all = half.counted (λ x. cond (x.user == e.user) 1 0) in
        let s = seat_from (λ x. cond (x.user == e.user) 1 0) actors (omega arith) in
        let r = half.global.tiled.ranks i e is in
        let f = count_front g.log i e is in
        by_actor e e.k s.0 s.1 s.2 s.3 (omega arith) unanswered

    -- a lost entry of the history
    pub lost_entry : (marks : Marks) (i : ℕ) (one : Entry) → slice_get (history_of g.answered marks g.log) i ≡ Some one → one.state ≡ Lost → 0 < m.failed
    lost_entry marks i one found lost =
        let r = from_log g.answered marks g.log i one found in
        let e : actor.Entry = r.0 in
        let n = lost_unanswered (g.answered e.user) marks e (ap (λ (z : Entry). z.state) r.2 ∙ lost) in
        unanswered_group i e r.1 n

    -- a user that has lines left has met a failure
    pub left_user : (v seat : ℕ) (u : UserState) → get_elem? actors seat ≡ maybe.some (actor.User u) → u.user ≡ v → count_of v g.log < length (c.script v) → (u.step ≡ user_step.Failed) × (0 < m.failed)
    left_user v seat u at own few =
        let f : UserFits D c m g p seat u = half.each seat (actor.User u) at in
        let n : count_of v g.log ≡ length u.starts = sym (ap (λ (x : ℕ). count_of x g.log) own) ∙ f.counted in
        let l : length u.lines ≡ length (c.script v) = ap length (f.lines ∙ ap c.script own) in
        ⊎_elim (λ done. let z : UserAt D c m g p seat u user_step.Done = subst (UserAt D c m g p seat u) done f.step in let y = z.0 in let x = z.1 in absurd (omega arith))
        (λ failed. let z : UserAt D c m g p seat u user_step.Failed = subst (UserAt D c m g p seat u) failed f.step in (failed, z.1))
        (ended_users seat u at)

    pub left_lines : (marks : Marks) (script : List ScriptLine) (shape : Shape) (left : List (ℕ × ℕ)) → IsOfScript c script shape → HasSeats script actors → IsLeft script (history_of g.answered marks g.log) left → left ≢ [] → 0 < m.failed
    left_lines marks script shape [] S seats is more = absurd (more refl)
    left_lines marks script shape (pair ∷ left) S seats is more =
        let n = is.some 0 pair refl in
        let h : length (lines_of_user pair.0 script) ≡ length (entries_of_user pair.0 (history_of g.answered marks g.log)) + pair.1 = is.counts 0 pair refl in
        let e = counts g.answered marks pair.0 g.log in
        let k = S.count pair.0 in
        let s = seats pair.0 (omega arith) in
        (left_user pair.0 s.0 s.1 s.2 s.3 (omega arith)).1

  -- a user that hasn't ended has a line left whose commit isn't answered
  pub open_line : (seat : ℕ) (u : UserState) → get_elem? actors seat ≡ maybe.some (actor.User u) → (HasEnded u → ⊥) → u.k < length (c.script u.user)
  open_line seat u at open_user = let f : UserFits D c m g p seat u = half.each seat (actor.User u) at in
      subst (λ (ls : List Line). u.k < length ls) f.lines (by u.step refl f.step)
    where
      by : (st : UserStep) → u.step ≡ st → UserAt D c m g p seat u st → u.k < length u.lines
      by user_step.LoadCheckpoint is h = h.1
      by user_step.Done is h = absurd (open_user (inl is))
      by user_step.Failed is h = absurd (open_user (inr is))
      by (user_step.AdvanceWritten s) is h = h.0.1
      by _ is h = h.1
