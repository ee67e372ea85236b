-- A turn that ends by a failure leaves a code in FAILED, and that has a cause; and no turn takes a code from there.
use Rattle.std.proofs.Common.{Bool, List, ap, arith, cond, false, inl, inr, refl, subst, sym, true, ℕ, ⊎_elim, ◌+◌, ◌<◌, ◌==◌, ◌∙◌, ◌≡◌, ◌⊎◌}
use Rattle.std.specs.Prelude.{slice_index, slice_set}
use lib.ListN.{get_elem?}
use mathlib.Core.Option.{some}
use Rattle.model_core.specs.{answer_of, DataServed, filled, HasLost, lists_left, LogServed, next, old_of, step_of, took, user_ending, words_left, Lent, DataSide, LogSide, Setup, list_word}
use Rattle.model_core.specs.States as actor
use Rattle.model_core.proofs.Lists.{set_at}
use Rattle.model_core.specs.declared.ops.Answer.{Answer}
use Rattle.model_core.specs.declared.ops.Op.{Op}
use Rattle.model_core.specs.declared.ops.Step.{Step}
use Rattle.model_core.specs.declared.ops.Step.TheVariants as step
use Rattle.model_core.specs.declared.steps.UserStep.{UserStep}
use Rattle.model_core.specs.declared.steps.UserStep.TheVariants as user_step
use Rattle.model_logcore.specs.LogLaws.{LogLaws}
use Rattle.model_own.specs.{OwnCore, OwnTurn, UserTurn, with_writer, errand_took, errand_waits, LogWork, own_checked, own_goes_on, own_lends, own_step_of, OwnUser}
use Rattle.model_ownrun.proofs.Seats.{user_there}
use Rattle.model_ownrun.specs.OwnRunning.{OwnRunning}
use Rattle.model_pagecore.specs.DataLaws.{DataLaws}
use Rattle.model_running.proofs.Archiving.{others_append_not, served_none}
use Rattle.model_running.proofs.FailedStays.{turn_keeps_failed}
use Rattle.model_running.proofs.Watermarks.{has_watermarks}
use Rattle.model_running.specs.Watermarks.{IsRunning}
use Rattle.redo_drive.proofs.FailedTurns.{failed_turn_has_some}
use Rattle.redo_ownmachine.proofs.Plays.{IsOpOf, nothing, plays_as}

-- who ends by a failure stands at its last step
failed_end : (n code : ℕ) (s : UserStep) → user_ending n s ≡ step.Failed code → s ≡ user_step.Failed
failed_end n code user_step.Failed e = refl
failed_end n code user_step.Done e = absurd (cc)
failed_end n code _ e = absurd (cc)

module _ (o : OwnUser) (k : LogWork) (a : Answer) (code : ℕ) where
  checked_fails : (b : Bool) → cond b step.Moved (step.Failed (old_of a)) ≡ step.Failed code
      → (cond b (record o.user { checks = false })
      (record o.user { checks = false; code = old_of a; step = user_step.Failed })).step ≡ user_step.Failed
  checked_fails true e = absurd (cc)
  checked_fails false e = refl

  goes_fails : (w : Bool) (x : OwnUser) → cond w step.Idle (user_ending x.user.code x.user.step) ≡ step.Failed code
      → x.user.step ≡ user_step.Failed
  goes_fails true x e = absurd (cc)
  goes_fails false x e = failed_end x.user.code code x.user.step e

  abbrev left : Bool → OwnUser
  left b = (cond {A = OwnUser × LogWork} b (own_checked o (old_of a), k) (errand_took o k a o.errand)).0

  fails_by : (b : Bool) → cond b (cond (old_of a == 0) step.Moved (step.Failed (old_of a)))
      (cond (errand_waits o a o.errand) step.Idle (user_ending (left b).user.code (left b).user.step))
      ≡ step.Failed code → (left b).user.step ≡ user_step.Failed
  fails_by true e = checked_fails (old_of a == 0) e
  fails_by false e = goes_fails (errand_waits o a o.errand) (errand_took o k a o.errand).0 e

  pub user_fails : own_step_of o k a ≡ step.Failed code → (own_goes_on o k a).0.user.step ≡ user_step.Failed
  user_fails = fails_by o.user.checks

module _ (D : LogSide) (L : LogLaws D) (E : DataSide) (EL : DataLaws E) (c : Setup) (old new : OwnCore D E)
    (seat : ℕ) (answer : Answer) (ends : Step) where
  abbrev HasCause : Type 0
  HasCause = D.Cause new.log_part (slice_index new.words 6) ⊎ E.Cause new.data_part (slice_index new.words 6)
      ⊎ HasLost (with_writer new).actors (slice_index new.words 6)

  user_cause : IsRunning D E c (with_writer new) → UserTurn D E old seat answer ends new → (code : ℕ)
      → ends ≡ step.Failed code → HasCause
  user_cause running t code is =
      let W = has_watermarks D L E EL c (with_writer new) running in
      let then : OwnUser = (own_goes_on t.who old.work answer).0 in
      let sits : get_elem? new.users seat ≡ some then =
      subst (λ (us : List OwnUser). get_elem? us seat ≡ some then) (sym t.users) (set_at old.users seat t.who then t.who_is) in
      let there = user_there new.users new.work new.others seat then sits in
      let shown : 0 < W.0.failed = W.2.of_log.failures_show seat (actor.User then.user) there
      (user_fails t.who old.work answer code (sym t.ends ∙ is)) in
      let same : slice_index new.words 6 ≡ W.0.failed = ap (λ (ws : List ℕ). slice_index ws 6) W.1 in
      subst (λ (n : ℕ). D.Cause new.log_part n ⊎ E.Cause new.data_part n ⊎ HasLost (with_writer new).actors n) (sym same)
      (W.2.failure_has_cause.cause shown)

  -- the cause is a call of a part, or an append
  pub own_failed_turn_has_some : IsRunning D E c (with_writer new) → OwnTurn D E old seat answer ends new
      → (code : ℕ) → ends ≡ step.Failed code → HasCause
  own_failed_turn_has_some running (inl t) code is = user_cause running t code is
  own_failed_turn_has_some running (inr t) code is =
      failed_turn_has_some D L E EL c (with_writer old) (with_writer new) (seat + 2) answer ends running t.turn code is

-- NO TURN TAKES A CODE FROM FAILED.
module _ (D : LogSide) (E : DataSide) (c : Setup) (old new : OwnCore D E) (seat : ℕ) (answer : Answer)
    (ends : Step) (before : OwnRunning D E c old) (failed : 0 < slice_index old.words 6) where
  abbrev Stays : Type 0
  Stays = 0 < slice_index new.words 6

  module _ (t : UserTurn D E old seat answer ends new) where
    abbrev o : OwnUser
    o = t.who

    abbrev k : LogWork
    k = old.work

    -- its Op is that of an actor of the store with writer and flusher, with what that lends
    as_actor : IsOpOf old.users k old.others o → Stays
    as_actor is =
        turn_keeps_failed D E c (with_writer old) (record {
          layout = new.layout;
          words = new.words;
          log_part = new.log_part;
          data_part = new.data_part;
          lists = new.lists;
          actors = slice_set (with_writer old).actors is.seat (took (filled is.who nothing) answer);
        }) is.seat answer (step_of (filled is.who nothing) answer) before.running (record {
          who = is.who;
          who_is = is.there;
          filling = nothing;
          fills = is.fills;
          code = t.code;
          log_served = subst (λ (l : Lent). LogServed D old.log_part l (next is.who) t.code new.log_part) is.lends
              (subst (λ (x : Op). LogServed D old.log_part (own_lends o k) x t.code new.log_part) is.ops t.log_served);
          data_served = subst (λ (l : Lent). DataServed E old.data_part l (next is.who) t.code new.data_part) is.lends
              (subst (λ (x : Op). DataServed E old.data_part (own_lends o k) x t.code new.data_part) is.ops t.data_served);
          own_served = served_none (next is.who) (others_append_not is.who is.no_reader) t.code;
          layout = t.layout;
          words = t.words ∙ ap (words_left old.layout old.words) is.ops;
          lists = t.lists ∙ ap (lists_left old.lists (list_word old.words)) is.ops;
          answered = t.answered
              ∙ ap (answer_of old.layout old.lists (D.failed old.log_part) t.code (D.stable new.log_part) old.words) is.ops;
          actors = refl;
          ends = refl;
        }) failed

    user_stays : Stays
    user_stays = ⊎_elim
        (λ same. subst (λ (n : ℕ). 0 < n) (sym (ap (λ (ws : List ℕ). slice_index ws 6) t.words ∙ same)) failed) as_actor
        (plays_as D old.log_part old.users k old.others before.errands seat o t.who_is old.layout old.words 6 (λ e. omega arith))

  pub own_turn_keeps_failed : OwnTurn D E old seat answer ends new → Stays
  own_turn_keeps_failed (inl t) = user_stays t
  own_turn_keeps_failed (inr t) = turn_keeps_failed D E c (with_writer old) (with_writer new) (seat + 2) answer
      ends before.running t.turn failed
