-- What a user that writes for itself may do next, in a run to which the rule holds.
use Rattle.std.proofs.Common.{Bool, Option, Some, cond, false, is_some, refl, subst, sym, true, ℕ, ◌≡◌}
use lib.ListN.{get_elem?}
use mathlib.Core.Option as maybe
use Rattle.model_core.specs.{answer_of, FlusherState, flusher_op, next, OpWords, user_op, writer_op, WriterState, AnswerFits, DataSide, LogSide}
use Rattle.model_core.specs.States as model
use Rattle.model_core.proofs.TurnWords.{advance_asks}
use Rattle.model_core.specs.declared.words.Layout.{Layout}
use Rattle.model_core.specs.declared.ops.Answer.{Answer}
use Rattle.model_core.specs.declared.ops.Op.{Op}
use Rattle.model_core.specs.declared.ops.Op.TheVariants as op
use Rattle.model_core.specs.declared.steps.FlusherStep.{FlusherStep}
use Rattle.model_core.specs.declared.steps.FlusherStep.TheVariants as flusher_step
use Rattle.model_core.specs.declared.steps.WriterStep.{WriterStep}
use Rattle.model_core.specs.declared.steps.WriterStep.TheVariants as writer_step
use Rattle.model_core.specs.declared.words.LinkBuffer.TheVariants as link_buffer
use Rattle.model_core.specs.declared.words.Word.TheVariants as word
use Rattle.model_own.specs.{errand_op, LogWork, own_next, OwnUser, has_work}
use Rattle.model_own.specs.declared.errand.ErrandStep.{ErrandStep}
use Rattle.model_own.specs.declared.errand.ErrandStep.TheVariants as errand_step
use Rattle.model_ownrun.proofs.Errands.{in_hand}
use Rattle.model_ownrun.proofs.OwnKeeps.{own_words}
use Rattle.model_ownrun.proofs.Seats.{user_there}
use Rattle.model_ownrun.specs.OwnRunning.{FlushesAt, WorkAt, WritesAt}
use Rattle.redo_disk.specs.{Seen}
use Rattle.redo_drive.specs.{lists_of, LogReady, run_data_side, run_log_side, RunOf, MayServe}
use Rattle.redo_drive.specs.declared.parts.Parts.{Parts}
use Rattle.redo_logdev.specs.Part as log
use Rattle.model_running.proofs.Archiving.{others_append_not}
use Rattle.redo_ownmachine.proofs.Serves.{its_data_laws, its_log_laws, may_at, may_serve_user}
use Rattle.redo_ownmachine.specs.OwnSeats.{OwnSeats}
use Rattle.redo_ownmachine.specs.OwnStore.{OwnRunsWith}
use Rattle.redo_ownmachine.specs.Serving.{MayServeUser}
use Rattle.redo_ownrule.specs.OwnPlays.{FlusherInHand, OwnMayGo, WorkInHand, WriterInHand}
use Rattle.redo_ownuser.specs.OwnFits.{OwnAnswerFits}
use Rattle.redo_rule.proofs.Kept.{all_answered}
use Rattle.redo_rule.specs.declared.law.Desk.{Desk}
use Rattle.redo_rule.specs.declared.law.Slot.{Slot}
use Rattle.redo_rule.specs.declared.law.Slot.TheVariants as slot

-- where the writer and the flusher stand in a user's hand
module _ (D : LogSide) (p : D.Part) where
  writes_in : (w : WriterStep) (f : FlusherStep) → WritesAt D p w f → WriterInHand w
  writes_in writer_step.TakeDevice f z = z
  writes_in writer_step.GiveBroken f z = z
  writes_in writer_step.GiveDevice f z = z
  writes_in writer_step.Failed f z = z
  writes_in _ f z = tt

  flushes_in : (f : FlusherStep) → FlushesAt D p f → FlusherInHand f
  flushes_in flusher_step.Sync z = tt
  flushes_in flusher_step.StoreFlushed z = tt
  flushes_in flusher_step.GiveDevice z = tt
  flushes_in flusher_step.StoreFailed z = tt
  flushes_in flusher_step.GiveFailed z = tt
  flushes_in _ z = z

  pub work_in : (x : ErrandStep) (k : LogWork) → WorkAt D p x k.writer.step k.flusher.step → WorkInHand x k
  work_in errand_step.Write k z = writes_in k.writer.step k.flusher.step z
  work_in errand_step.Flush k z = flushes_in k.flusher.step z.1
  work_in _ k z = tt

-- the log's work never rests in a user's hand: who asks for nothing has ended
writer_asks : (s : WriterState) (w : WriterStep) → WriterInHand w → writer_op s w ≡ op.Rest → ⊥
writer_asks s (writer_step.Advance v) on e = advance_asks link_buffer.Written s.advance v op.Rest e
writer_asks s writer_step.Failed on e = on
writer_asks s _ on e = absurd (cc)

flusher_asks : (t : FlusherState) (f : FlusherStep) → FlusherInHand f → flusher_op t f ≡ op.Rest → ⊥
flusher_asks t flusher_step.Failed on e = on
flusher_asks t _ on e = absurd (cc)

pub own_rests : (o : OwnUser) (k : LogWork) → WorkInHand o.errand k → own_next o k ≡ op.Rest
    → next (model.User o.user) ≡ op.Rest
own_rests o k on e = by o.user.checks o.errand on e
  where
    by : (b : Bool) (x : ErrandStep) → WorkInHand x k → cond b (op.Load word.Failed) (errand_op o k x) ≡ op.Rest
        → cond b (op.Load word.Failed) (user_op o.user o.user.step) ≡ op.Rest
    by true x on e = absurd (cc)
    by false errand_step.Done on e = e
    by false errand_step.TakeDevice on e = absurd (cc)
    by false errand_step.GiveBroken on e = absurd (cc)
    by false errand_step.Write on e = absurd (writer_asks k.writer k.writer.step on e)
    by false errand_step.Flush on e = absurd (flusher_asks k.flusher k.flusher.step on e)

module _ {L D : Type 0} {archive : Bool} (log_seen : L → Seen) (data_seen : D → Seen) (run : RunOf L D) (parts : Parts L D)
    (seats : OwnSeats) (R : OwnRunsWith log_seen data_seen run archive parts seats) (n : ℕ) (o : OwnUser)
    (at : get_elem? seats.users n ≡ maybe.some o) where
  abbrev A : LogSide
  A = run_log_side log_seen data_seen run

  abbrev B : DataSide
  B = run_data_side log_seen data_seen run

  pub serves : MayServeUser parts o seats.work
  serves = may_serve_user log_seen data_seen run parts seats R n o at

  pub as_user : MayServe parts (model.User o.user)
  as_user = may_at log_seen data_seen run parts seats R n (model.User o.user)
      (user_there seats.users seats.work seats.others n o at) (others_append_not (model.User o.user) tt)

  pub its_words : OpWords parts.words.layout (own_next o seats.work)
  its_words =
      let W = R.runs.running in
      subst (λ (m : Layout). OpWords m (own_next o seats.work)) (sym W.layout_is)
      (own_words A (its_log_laws log_seen data_seen run) B (its_data_laws log_seen data_seen run) run.setup W.shared
      (lists_of parts.lists) parts.log parts.store seats.users seats.work seats.others
      (W.log_ghost, W.page_ghost, W.both) R.errands n o at 0 parts.log parts.store)

  pub its_hand : WorkInHand o.errand seats.work
  its_hand = by (has_work o.errand) refl
    where
      none : (x : ErrandStep) → has_work x ≡ false → WorkInHand x seats.work
      none errand_step.Write e = absurd (cc)
      none errand_step.Flush e = absurd (cc)
      none _ e = tt

      by : (b : Bool) → has_work o.errand ≡ b → WorkInHand o.errand seats.work
      by true has = work_in A parts.log o.errand seats.work
          (in_hand A parts.log seats.users seats.work R.errands n o at has).step
      by false has = none o.errand has

  abbrev answer_to : Op → Answer
  answer_to = answer_of parts.words.layout (lists_of parts.lists) (is_some parts.log.failed) 0 0 parts.words.words

  pub may_go : (layout : Layout) (held : Option (Slot L D)) → layout ≡ parts.words.layout
      → ((desk : Desk L) → held ≡ Some (slot.Log desk) → has_work o.errand ≡ true
      → ◌≡◌ {A = log.Part L} desk.part parts.log)
      → OwnMayGo layout held o seats.work
  may_go layout held count with_log = record {
    stands = serves.stands;
    goes_on = serves.goes_on;
    in_hand = its_hand;
    done = λ at_end. let W = R.runs.running in all_answered A run.setup W.shared W.log_ghost parts.log n o.user at_end
        (W.both.logged.each n (model.User o.user) (user_there seats.users seats.work seats.others n o at));
    rest = λ e. subst (λ (z : Op). AnswerFits (model.User o.user) (answer_to z))
        (own_rests o seats.work its_hand e) (as_user.fits 0 0);
    give = λ e. subst (λ (z : Op). OwnAnswerFits o seats.work (answer_to z)) e (serves.fits 0 0);
    there = subst (λ (m : Layout). OpWords m (own_next o seats.work)) (sym count) its_words;
    log = λ desk is has l lends. subst (λ (q : log.Part L). LogReady q l (own_next o seats.work))
        (sym (with_log desk is has)) ((serves.playable l lends).log);
  }
