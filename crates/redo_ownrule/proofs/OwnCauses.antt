-- Why an answer of `play` came, of a user that writes for itself: a wait met its condition, an end was one, and a
-- failure had a cause.
use Rattle.std.proofs.Common.{Bool, List, ap, cond, false, inl, inr, is_some, length, subst, sym, true, ℕ, ⊎_elim, ◌<◌, ◌∙◌, ◌≡◌, ◌⊎◌}
use lib.ListN.{get_elem?}
use mathlib.Core.Option.{some, some-injective}
use Rattle.model_core.proofs.Endings.{ended_of, idle_of, quiet, resting_code, resting_free, turn_ends}
use Rattle.model_core.proofs.Lists.{set_at}
use Rattle.model_core.proofs.Rests.{rests}
use Rattle.model_core.specs.{answer_of, is_checking, old_of, own_op, LogSide}
use Rattle.model_core.specs.States as model
use Rattle.model_core.specs.Program.{ending}
use Rattle.model_core.specs.declared.ops.Answer.{Answer}
use Rattle.model_core.specs.declared.ops.Answer.TheVariants as answer
use Rattle.model_core.specs.declared.ops.Op.TheVariants as op
use Rattle.model_core.specs.declared.ops.Step.{Step}
use Rattle.model_core.specs.declared.ops.Step.TheVariants as step
use Rattle.model_core.specs.declared.steps.UserStep.TheVariants as user_step
use Rattle.model_core.specs.declared.words.Word.TheVariants as word
use Rattle.model_own.specs.{errand_op, LogWork, own_goes_on, own_next, own_step_of, OwnUser}
use Rattle.model_ownrun.proofs.Seats.{user_there}
use Rattle.redo_disk.specs.{Seen}
use Rattle.redo_drive.specs.{lists_of, run_log_side, code_in}
use Rattle.redo_ownmachine.specs.OwnSeats.{actors_of}
use Rattle.redo_ownrule.proofs.OwnEnds.{good_end, own_ended, own_ends, own_fails, own_idle}
use Rattle.redo_ownrule.proofs.OwnMay.{its_hand}
use Rattle.redo_ownrule.specs.OwnCauses.{OwnEndsSo, OwnHasFailureCode, OwnHasWaited}
use Rattle.redo_ownrule.specs.OwnMine.{OwnHasGone}
use Rattle.redo_ownrule.specs.OwnPlays.{ErrandGivesFailed, OwnShown, WorkInHand}
use Rattle.redo_rule.proofs.Caused as caused
use Rattle.redo_rule.proofs.Kept.{all_answered, done_is_free}
use Rattle.redo_rule.proofs.Reached.{has_cause}
use Rattle.redo_rule.specs.Causes.{HasEndedBy, IsFinishedUser}
use Rattle.redo_rule.specs.Mine.{number_of}
use Rattle.redo_rule.specs.declared.law.View.{View}

module _ {L D : Type 0} (log_seen : L → Seen) (data_seen : D → Seen) (v : View L D) (o : OwnUser) (k : LogWork)
    (r : Answer) (s : OwnShown log_seen data_seen v.about (number_of v) o k r) where
  abbrev number : ℕ
  number = number_of v

  abbrev A : LogSide
  A = run_log_side log_seen data_seen s.run

  same : s.turn.who ≡ o
  same = some-injective s.turn.who o (sym s.turn.who_is ∙ s.at)

  abbrev pub then : OwnUser
  then = (own_goes_on o k r).0

  -- its state after the turn
  there : get_elem? s.after.users number ≡ some then
  there =
      let now : OwnUser = (own_goes_on s.turn.who s.seats.work r).0 in
      subst (λ (j : LogWork). get_elem? s.after.users number ≡ some (own_goes_on o j r).0) s.work
      (subst (λ (z : OwnUser). get_elem? s.after.users number ≡ some (own_goes_on z s.seats.work r).0) same
      (subst (λ (l : List OwnUser). get_elem? l number ≡ some now) (sym s.turn.users)
      (set_at s.seats.users number s.turn.who now s.turn.who_is)))

  pub done_behind : then.user.step ≡ user_step.Done → then.user.k ≡ length then.user.lines
  done_behind at_end =
      let g = s.runs_on.runs.running in
      all_answered A s.run.setup g.shared g.log_ghost s.new.log number then.user at_end
      (g.both.logged.each number (model.User then.user)
      (user_there s.after.users s.after.work s.after.others number then there))

  free_behind : then.user.step ≡ user_step.Done → then.user.checks ≡ false
  free_behind at_end =
      let g = s.runs_on.runs.running in
      done_is_free A s.run.setup g.shared g.log_ghost s.new.log number then.user at_end
      (g.both.logged.each number (model.User then.user)
      (user_there s.after.users s.after.work s.after.others number then there))

  free_before : o.user.step ≡ user_step.Done → o.user.checks ≡ false
  free_before at_end =
      let g = s.runs.runs.running in
      done_is_free A s.run.setup g.shared g.log_ghost s.old.log number o.user at_end
      (g.both.logged.each number (model.User o.user)
      (user_there s.seats.users s.seats.work s.seats.others number o s.at))

  pub ends_there : then.user.step ≡ user_step.Done → own_step_of o k r ≡ step.Ended
  ends_there = own_ends o k r free_before free_behind

  -- what it found where it checks
  found : o.user.checks ≡ true → (own_next o k ≡ op.Load word.Failed) × (old_of r ≡ code_in s.old)
  found checks =
      let asks : own_next o k ≡ op.Load word.Failed =
      ap (λ (b : Bool). cond b (op.Load word.Failed) (errand_op o k o.errand)) checks in (
        asks,
        ap old_of (s.turn.answered
            ∙ ap (answer_of s.old.words.layout (lists_of s.old.lists) (is_some s.old.log.failed) s.turn.code s.new.log.marks.stable
            s.old.words.words)
            (ap (λ (z : OwnUser). own_next z s.seats.work) same ∙ ap (own_next o) s.work ∙ asks)),
      )

  -- its code has its cause
  failure_code : (code : ℕ)
      → ((own_next o k ≡ op.Load word.Failed) × (code ≡ code_in s.old)) ⊎ ErrandGivesFailed o.errand k code
      → (0 < code → caused.FailedBy log_seen data_seen s.about s.run s.old (actors_of s.seats) s.runs.runs code)
      → OwnHasFailureCode log_seen data_seen v o code
  failure_code code way failed =
      let cause = caused.met_cause log_seen data_seen s.about s.run s.old (actors_of s.seats) s.runs.runs code failed in
      record {
        work = k;
        answer = r;
        shown = s;
        way = way;
        lost = cause.lost;
        has_met = cause.has_met;
        cause = cause.cause;
      }

  hand : WorkInHand o.errand k
  hand = subst (WorkInHand o.errand) s.work (its_hand log_seen data_seen s.run s.old s.seats s.runs number o s.at)

  pub own_failure : (code : ℕ) → own_step_of o k r ≡ step.Failed code
      → HasEndedBy (model.User o.user) code ⊎ OwnHasFailureCode log_seen data_seen v o code
  own_failure code e = ⊎_elim
      (λ t.
      let f = found t.0 in
      let is : code ≡ code_in s.old = sym t.1 ∙ f.1 in
      inr (failure_code code (inl (f.0, is))
      (has_cause log_seen data_seen s.run s.old (actors_of s.seats) s.runs.runs code is)))
      (⊎_elim
      (λ gives. inr (failure_code code (inr gives) (λ positive. inl (s.has_cause code gives))))
      (λ ended. inl ended))
      (own_fails o k r code (s.runs.errands.fits number o s.at) hand e)

module _ {L D : Type 0} (log_seen : L → Seen) (data_seen : D → Seen) (v : View L D) (o : OwnUser) (ends : Step)
    (x : OwnUser) (gone : OwnHasGone log_seen data_seen v o ends x) where
  abbrev a : model.Actor
  a = model.User o.user

  why_idle : ends ≡ step.Idle → OwnHasWaited log_seen data_seen v o
  why_idle e = ⊎_elim
      (λ t. absurd (quiet a answer.Rested t.0 (idle_of a answer.Rested (sym t.2 ∙ e)).1))
      (λ h.
      let t = own_idle o h.work h.answer (sym h.ends ∙ e) in record {
        work = h.work;
        answer = h.answer;
        shown = h.shown;
        goes_on = t.0;
        waits = t.1;
      })
      gone

  why_ended : (o.user.step ≡ user_step.Done → o.user.k ≡ length o.user.lines) → ends ≡ step.Ended
      → IsFinishedUser (model.User x.user)
  why_ended done e = ⊎_elim
      (λ t.
      let at : ending a ≡ step.Ended =
      ap ending (sym (rests a t.0 answer.Rested)) ∙ ended_of a answer.Rested (sym t.2 ∙ e) in
      let is : o.user.step ≡ user_step.Done = done_at at in
      subst (λ (y : OwnUser). IsFinishedUser (model.User y.user)) (sym t.1) (is, done is))
      (λ h.
      let is = own_ended o h.work h.answer (sym h.ends ∙ e) in
      subst (λ (y : OwnUser). IsFinishedUser (model.User y.user)) (sym h.is)
      (is, done_behind log_seen data_seen v o h.work h.answer h.shown is))
      gone
    where
      done_at : ending a ≡ step.Ended → o.user.step ≡ user_step.Done
      done_at e = good_end o.user.code o.user.step e

  ends_well : IsFinishedUser (model.User x.user) → ends ≡ step.Ended
  ends_well is = ⊎_elim
      (λ t.
      let same : model.User x.user ≡ a = ap (λ (y : OwnUser). model.User y.user) t.1 in
      t.2 ∙ turn_ends a x.user answer.Rested (same ∙ sym (rests a t.0 answer.Rested)) is.0
      (λ w e at_end. ap is_checking (sym e) ∙ resting_free (is_checking a) (own_op a) t.0))
      (λ h. h.ends ∙ ends_there log_seen data_seen v o h.work h.answer h.shown
      (ap (λ (y : OwnUser). y.user.step) (sym h.is) ∙ is.0))
      gone

  why_failed : (code : ℕ) → ends ≡ step.Failed code
      → HasEndedBy a code ⊎ OwnHasFailureCode log_seen data_seen v o code
  why_failed code e = ⊎_elim
      (λ t. inl (t.0, resting_code a code t.0 (sym t.2 ∙ e)))
      (λ h. own_failure log_seen data_seen v o h.work h.answer h.shown code (sym h.ends ∙ e))
      gone

  -- `done` is what the seat knows of a user that rests
  pub own_ends_so : (o.user.step ≡ user_step.Done → o.user.k ≡ length o.user.lines)
      → OwnEndsSo log_seen data_seen v o ends x
  own_ends_so done = record {
    idle = why_idle;
    ended = (why_ended done, ends_well);
    failed = why_failed;
  }
