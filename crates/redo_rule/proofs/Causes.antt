-- Why an answer of `play` came: a wait met its condition, an end was one, and a failure had a cause.
use Rattle.std.proofs.Common.{Bool, List, ap, arith, cond, false, inl, inr, is_some, length, refl, subst, sym, true, ℕ, ⊎_elim, ◌<◌, ◌∙◌, ◌≡◌, ◌⊎◌}
use lib.ListN.{get_elem?}
use mathlib.Core.Option.{some, some-injective}
use Rattle.model_core.proofs.Endings.{ended_of, ended_well, idle_of, quiet, resting_code, resting_free, turn_ends}
use Rattle.model_core.proofs.FailedSteps.{turn_fails}
use Rattle.model_core.proofs.Lists.{set_at}
use Rattle.model_core.proofs.Rests.{rests}
use Rattle.model_core.specs.{answer_of, filled, Filling, HasLost, is_checking, LostAt, next, old_of, own_op, step_of, took, UserState, GivesFailed, StoresFailed}
use Rattle.model_core.specs.States as model
use Rattle.model_core.specs.Program.{ending}
use Rattle.model_core.specs.declared.ops.Answer.{Answer}
use Rattle.model_core.specs.declared.ops.Answer.TheVariants as answer
use Rattle.model_core.specs.declared.ops.Op.TheVariants as op
use Rattle.model_core.specs.declared.ops.Step.{Step}
use Rattle.model_core.specs.declared.ops.Step.TheVariants as step
use Rattle.model_core.specs.declared.steps.UserStep.TheVariants as user_step
use Rattle.model_core.specs.declared.words.Word.TheVariants as word
use Rattle.model_running.proofs.Filling.{next_filled}
use Rattle.model_running.specs.ReadHalf.{ReadsInRun}
use Rattle.model_core.specs.declared.steps.ReaderStep.TheVariants as reader_step
use Rattle.redo_disk.specs.{Seen}
use Rattle.redo_drive.specs.{lists_of, run_data_side, run_log_side, code_in, view_of}
use Rattle.redo_drive.specs.declared.actor.Actor.{Actor}
use Rattle.redo_rule.proofs.Caused as caused
use Rattle.redo_rule.proofs.Filled.{checks_filled, ending_filled, gives_filled, stores_filled, waits_filled}
use Rattle.redo_rule.proofs.Kept.{all_answered, done_is_free}
use Rattle.redo_rule.proofs.Reached.{has_cause, is_archived}
use Rattle.redo_rule.specs.Causes.{EndsSo, HasEndedBy, HasFailureCode, HasWaited, IsFinishedUser}
use Rattle.redo_rule.specs.Mine.{HasGone, heard_of, number_of}
use Rattle.redo_rule.specs.Plays.{Shown}
use Rattle.redo_rule.specs.declared.law.View.{View}

-- a user that has all its commits answered, where those at its end are
answered_at : {R : Type 0} (b : Actor R) → ending (view_of b) ≡ step.Ended → ((u : UserState) → view_of b ≡ model.User
    u → u.step ≡ user_step.Done → u.k ≡ length u.lines) → IsFinishedUser (view_of b)
answered_at b e all = let t = ended_well (view_of b) e in subst IsFinishedUser (sym t.1) (t.2, all t.0 t.1 t.2)

-- it is a user
is_user : (b : model.Actor) → IsFinishedUser b → (u : UserState) × (b ≡ model.User u) × (u.step ≡ user_step.Done)
is_user (model.User u) is = (u, refl, is.0)
is_user _ is = absurd is

module _ {L D : Type 0} (log_seen : L → Seen) (data_seen : D → Seen) (v : View L D) (a : model.Actor) (r : Answer)
    (s : Shown log_seen data_seen v.about (number_of v) (heard_of v) a r) where
  abbrev number : ℕ
  number = number_of v

  same : s.turn.who ≡ a
  same = some-injective s.turn.who a (sym s.turn.who_is ∙ s.at)

  -- the actor, with what the turn puts into it
  abbrev pub with : model.Actor
  with = filled a s.turn.filling

  -- its state after the turn
  there : get_elem? s.after number ≡ some (took with r)
  there =
      let now : model.Actor = took (filled s.turn.who s.turn.filling) r in
      subst (λ (z : model.Actor). get_elem? s.after number ≡ some (took (filled z s.turn.filling) r)) same
      (subst (λ (l : List model.Actor). get_elem? l number ≡ some now) (sym s.turn.actors)
      (set_at s.actors number s.turn.who now s.turn.who_is))

  pub done_behind : (u : UserState) → took with r ≡ model.User u → u.step ≡ user_step.Done → u.k ≡ length u.lines
  done_behind u is at_end = let g = s.runs_on.running in all_answered (run_log_side log_seen data_seen s.run) s.run.setup g.shared g.log_ghost s.new.log number u at_end (g.both.logged.each number (model.User u) (there ∙ ap (λ (z : model.Actor). some z) is))

  pub free_before : (u : UserState) → a ≡ model.User u → u.step ≡ user_step.Done → u.checks ≡ false
  free_before u is at_end = let g = s.runs.running in done_is_free (run_log_side log_seen data_seen s.run) s.run.setup g.shared g.log_ghost s.old.log number u at_end (g.both.logged.each number (model.User u) (s.at ∙ ap (λ (z : model.Actor). some z) is))

  -- what it found where it checks
  found : is_checking a ≡ true → (next a ≡ op.Load word.Failed) × (old_of r ≡ code_in s.old)
  found checks =
      let asks : next a ≡ op.Load word.Failed = ap (λ (b : Bool). cond b (op.Load word.Failed) (own_op a)) checks in
      (asks, ap old_of (s.turn.answered ∙ ap (answer_of s.old.words.layout (lists_of s.old.lists) (is_some s.old.log.failed) s.turn.code s.new.log.marks.stable s.old.words.words) (ap next same ∙ asks)))

  abbrev FailedBy : ℕ → Type 0
  FailedBy = caused.FailedBy log_seen data_seen s.about s.run s.old s.actors s.runs

  -- its code, if it tells a failure of its own
  own_cause : (b : model.Actor) (code : ℕ) → get_elem? s.actors number ≡ some b → StoresFailed b code → FailedBy code
  own_cause (model.Cleaner v) code at h = inr (inl (subst ((run_data_side log_seen data_seen s.run).Cause s.old.store) h.1
      ((s.runs.running.both.paged.each number (model.Cleaner v) at).cause h.0)))
  own_cause (model.Reader x) code at h =
      let I : ReadsInRun s.run.setup x = s.runs.running.both.in_run number (model.Reader x) at in
      let losing : LostAt x reader_step.StoreLost = subst (LostAt x) h.0 I.lost in
      let is : x.lost ≡ code = sym losing.ends ∙ h.1 in
      let lost : HasLost s.actors code = record {
        seat = number;
        archiver = x;
        at = at;
        lost = is;
        some_code = ⊎_elim (λ e. omega arith) (λ e. omega arith) losing.why;
      } in
      inr (inr (is_archived log_seen data_seen s.run s.old s.actors s.runs code lost, lost))
  own_cause _ code at h = absurd h

  -- so it has its cause
  failure_code : (code : ℕ) → ((next a ≡ op.Load word.Failed) × (code ≡ code_in s.old)) ⊎ (GivesFailed a code ⊎ StoresFailed a code)
      → (0 < code → FailedBy code) → HasFailureCode log_seen data_seen v a code
  failure_code code way failed =
      let cause = caused.met_cause log_seen data_seen s.about s.run s.old s.actors s.runs code failed in record {
        answer = r;
        shown = s;
        way = way;
        lost = cause.lost;
        has_met = cause.has_met;
        cause = cause.cause;
      }

  found_failure : (code : ℕ) → is_checking a ≡ true → old_of r ≡ code → HasFailureCode log_seen data_seen v a code
  found_failure code checks is =
      let f = found checks in
      failure_code code (inl (f.0, sym is ∙ f.1))
      (has_cause log_seen data_seen s.run s.old s.actors s.runs code (sym is ∙ f.1))

  own_failure : (code : ℕ) → GivesFailed a code ⊎ StoresFailed a code → HasFailureCode log_seen data_seen v a code
  own_failure code way = failure_code code (inr way)
      (λ some_code. ⊎_elim (λ h. inl (s.has_cause code h)) (λ h. own_cause a code s.at h) way)

  pub failure : (code : ℕ) → step_of with r ≡ step.Failed code → HasEndedBy a code
      ⊎ HasFailureCode log_seen data_seen v a code
  failure code e =
      let f : Filling = s.turn.filling in
      ⊎_elim
      (λ t. inr (found_failure code (sym (checks_filled a f) ∙ t.0) t.1))
      (λ t. ⊎_elim (λ h. inr (own_failure code (inl (gives_filled a f code h))))
      (λ u. ⊎_elim (λ h. inr (own_failure code (inr (stores_filled a f code h))))
      (λ h. inl (
        sym (next_filled a f) ∙ ap (λ (b : Bool). cond b (op.Load word.Failed) (own_op with)) t.0 ∙ h.0,
        sym
            (ending_filled a f) ∙ h.1,
      )) u) t.1)
      (turn_fails with r code e)

module _ {L D : Type 0} (log_seen : L → Seen) (data_seen : D → Seen) (v : View L D) (a : model.Actor)
    {R : Type 0} (c : Actor R) (ends : Step) where
  abbrev b : model.Actor
  b = view_of c

  why_idle : HasGone log_seen data_seen v a ends b → ends ≡ step.Idle → HasWaited log_seen data_seen v a
  why_idle gone e = ⊎_elim
      (λ t. absurd (quiet a answer.Rested t.0 (idle_of a answer.Rested (sym t.2 ∙ e)).1))
      (λ h.
      let f : Filling = h.shown.turn.filling in
      let t = idle_of (filled a f) h.answer (sym h.ends ∙ e) in record {
        answer = h.answer;
        shown = h.shown;
        goes_on = sym (checks_filled a f) ∙ t.0;
        waits = sym (waits_filled a f h.answer) ∙ t.1;
      })
      gone

  why_ended : HasGone log_seen data_seen v a ends b
      → ((u : UserState) → a ≡ model.User u → u.step ≡ user_step.Done → u.k ≡ length u.lines) → ends ≡ step.Ended
      → IsFinishedUser b
  why_ended gone done e = ⊎_elim
      (λ t. answered_at c (ap ending (t.1 ∙ sym (rests a t.0 answer.Rested)) ∙ ended_of a answer.Rested (sym t.2 ∙ e)) (λ u is at_end. done u (sym t.1 ∙ is) at_end))
      (λ h. answered_at c (ap ending h.is ∙ ended_of (filled a h.shown.turn.filling) h.answer (sym h.ends ∙ e))
      (λ u is at_end. done_behind log_seen data_seen v a h.answer h.shown u (sym h.is ∙ is) at_end))
      gone

  ends_well : HasGone log_seen data_seen v a ends b → IsFinishedUser b → ends ≡ step.Ended
  ends_well gone is =
      let u = is_user b is in
      ⊎_elim
      (λ t. t.2 ∙ turn_ends a u.0 answer.Rested (sym u.1 ∙ t.1 ∙ sym (rests a t.0 answer.Rested)) u.2 (λ w e at_end. ap is_checking (sym e) ∙ resting_free (is_checking a) (own_op a) t.0))
      (λ h. h.ends ∙ turn_ends (filled a h.shown.turn.filling) u.0 h.answer (sym u.1 ∙ h.is) u.2
      (λ w e at_end. free_before log_seen data_seen v a h.answer h.shown w (was_user a
      h.shown.turn.filling w e) at_end)) gone
    where
      was_user : (a : model.Actor) (f : Filling) (w : UserState) → filled a f ≡ model.User w → a ≡ model.User w
      was_user (model.Reader r) f w e = absurd (cc)
      was_user (model.User u) f w e = e
      was_user _ f w e = absurd (cc)

  why_failed : HasGone log_seen data_seen v a ends b → (code : ℕ) → ends ≡ step.Failed code → HasEndedBy a code
      ⊎ HasFailureCode log_seen data_seen v a code
  why_failed gone code e = ⊎_elim
      (λ t. inl (t.0, resting_code a code t.0 (sym t.2 ∙ e)))
      (λ h. failure log_seen data_seen v a h.answer h.shown code (sym h.ends ∙ e)) gone

  -- `done` is what the seat knows of an actor that rests
  pub ends_so : HasGone log_seen data_seen v a ends b
      → ((u : UserState) → a ≡ model.User u → u.step ≡ user_step.Done → u.k ≡ length u.lines)
      → EndsSo log_seen data_seen v a ends b
  ends_so gone done = record {
    idle = why_idle gone;
    ended = (why_ended gone done, ends_well gone);
    failed =
        why_failed gone;
  }
