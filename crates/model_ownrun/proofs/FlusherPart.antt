-- The flusher's part of a user's errand: each Op leads to the next one of it, or back to the user's own step.
use Rattle.std.proofs.Common.{Bool, List, ap, arith, cond, eqb, false, refl, subst, sym, true, ℕ, ◌∙◌, ◌≡◌}
use Rattle.std.proofs.lemmas.Bool.{eqb-false}
use lib.ListN.{get_elem?}
use mathlib.Core.Option.{some}
use Rattle.model_core.proofs.Lists.{set_again}
use Rattle.model_core.specs.{Actor, DataServed, flusher_op, flusher_took, FlusherState, Listed, LogServed, Nothing, shared_left, SharedWords, DataSide, LogSide, Setup}
use Rattle.model_core.specs.declared.ops.Answer.{Answer}
use Rattle.model_core.specs.declared.ops.Op.{Op}
use Rattle.model_core.specs.declared.steps.FlusherStep.{FlusherStep}
use Rattle.model_core.specs.declared.steps.WriterStep.{WriterStep}
use Rattle.model_core.specs.declared.ops.Answer.TheVariants as answer
use Rattle.model_core.specs.declared.steps.AdvanceStep.TheVariants as advance_step
use Rattle.model_core.specs.declared.steps.FlusherStep.TheVariants as flusher_step
use Rattle.model_core.specs.declared.steps.WriterStep.TheVariants as writer_step
use Rattle.model_core.specs.States as actor
use Rattle.model_logcore.specs.{FlusherAt, FlusherFits}
use Rattle.model_logcore.specs.LogLaws.{AfterSync, LogLaws}
use Rattle.model_own.specs.{all_actors, LogWork, OwnUser, after_flusher, MayHelpAt}
use Rattle.model_own.specs.declared.errand.ErrandStep.{ErrandStep}
use Rattle.model_own.specs.declared.errand.ErrandStep.TheVariants as errand_step
use Rattle.model_ownrun.proofs.ActorSteps.{flusher_goes_on, user_fails}
use Rattle.model_ownrun.proofs.Moves.{answer_to, lists_after, Runs}
use Rattle.model_ownrun.proofs.Seats.{flusher_seat, flusher_there}
use Rattle.model_ownrun.proofs.WriterPart.{Leaves, goes_to}
use Rattle.model_own.specs.ErrandFits.{ErrandFits}
use Rattle.model_ownrun.specs.OwnRunning.{FlushesAt, IsWriterAtRest, WorkFits}
use Rattle.model_pagecore.specs.DataLaws.{DataLaws}

module _ (D : LogSide) (L : LogLaws D) (E : DataSide) (EL : DataLaws E) (c : Setup) (users : List OwnUser)
    (others : List Actor) (i : ℕ) (o : OwnUser) (at : get_elem? users i ≡ some o) (may : MayHelpAt o.user.step)
    (asks : o.user.checks ≡ false) (on : o.errand ≡ errand_step.Flush) (m : SharedWords) (ls : ℕ → List Listed)
    (p : D.Part) (d : E.Part) (k : LogWork) (runs : Runs D E c m ls p d (all_actors users k others))
    (quiet : k.writer.checks ≡ false) (still : k.flusher.checks ≡ false)
    (rests : k.writer.step ≡ writer_step.Advance advance_step.LoadTail) (code : ℕ) (q : D.Part) (e : E.Part) where
  abbrev asked : FlusherStep → Op
  asked st = flusher_op k.flusher st

  abbrev told : FlusherStep → Answer
  told st = answer_to D p code q m ls (flusher_op k.flusher st)

  abbrev next : FlusherStep → FlusherState
  next st = flusher_took k.flusher (told st) st

  -- a store after an Op, with the log's work so
  abbrev With : SharedWords → (ℕ → List Listed) → FlusherState → Type 0
  With m' ls' f = Runs D E c m' ls' q e (all_actors users (record k { flusher = f }) others)

  abbrev Left : SharedWords → (ℕ → List Listed) → OwnUser × LogWork → Type 0
  Left m' ls' x = Leaves D L E EL c users others i o at m' ls' q e x

  abbrev After : FlusherStep → FlusherState → Type 0
  After st f = With (shared_left m (asked st)) (lists_after m ls (asked st)) f

  abbrev went : FlusherState → OwnUser × LogWork
  went f = after_flusher o k f f.step

  abbrev Goes : FlusherStep → Type 0
  Goes st = Left (shared_left m (asked st)) (lists_after m ls (asked st)) (went (next st))

  -- its part goes on
  stays : (m' : SharedWords) (ls' : ℕ → List Listed) (f : FlusherState) → With m' ls' f → f.checks ≡ false
      → FlushesAt D q f.step → Left m' ls' (o, record k { flusher = f })
  stays m' ls' f r still' at' = (
    subst (λ (l : List OwnUser). Runs D E c m' ls' q e (all_actors l (record k { flusher = f }) others))
        (sym (set_again users i o at)) r,
    subst (λ (x : ErrandStep). ErrandFits o.user x) (sym on) (may, asks),
    subst (λ (x : ErrandStep). WorkFits D q x (record k { flusher = f })) (sym on)
        (record { writer_goes_on = quiet; flusher_goes_on = still'; step = (rests, at') }),
  )

  -- as the turn of the flusher
  turned : (st : FlusherStep) → k.flusher.step ≡ st → LogServed D p Nothing (asked st) code q
      → DataServed E d Nothing (asked st) code e → After st (next st)
  turned st is = subst
      (λ (t : FlusherStep). LogServed D p Nothing (asked t) code q → DataServed E d Nothing (asked t) code e
      → After t (next t))
      is (λ v w. flusher_goes_on D L E EL c m ls p d users k others runs still code q e v w)

  stands : (st : FlusherStep) → k.flusher.step ≡ st → FlusherAt D c m runs.0 p k.flusher st
  stands st is =
      let there = flusher_there users k others in
      let fits : FlusherFits D c m runs.0 p (flusher_seat users) k.flusher =
      runs.2.logged.each (flusher_seat users) (actor.Flusher k.flusher) there in
      subst (FlusherAt D c m runs.0 p k.flusher) is fits.step

  resting : (r : D.Part) → IsWriterAtRest D r k.writer.step
  resting r = subst (λ (t : WriterStep). IsWriterAtRest D r t) (sym rests) tt

  abbrev synced : Bool → FlusherState
  synced b = flusher_took k.flusher (cond b (answer.Called (D.stable q)) (answer.Failed code)) flusher_step.Sync

  pub flush_by : (st : FlusherStep) → k.flusher.step ≡ st → FlushesAt D p st
      → LogServed D p Nothing (asked st) code q → DataServed E d Nothing (asked st) code e → Goes st
  flush_by flusher_step.Sync is w served stored = by (eqb code 0) refl (turned flusher_step.Sync is served stored)
    where
      left : AfterSync D c.blocks c.base runs.0.log code p q
      left = L.syncs c.blocks c.base runs.0.log code p q runs.2.logged.global.part.holds (stands flusher_step.Sync is)
          served

      by : (b : Bool) → eqb code 0 ≡ b → With m ls (synced b) → Left m ls (went (synced b))
      by true z r = stays m ls _ r still tt
      by false z r = stays m ls _ r still (L.broken q code (left.cause (let n = eqb-false code 0 z in omega arith)))
  flush_by flusher_step.StoreFlushed is w served stored =
      stays _ ls _ (turned flusher_step.StoreFlushed is served stored) still tt
  flush_by flusher_step.GiveDevice is w served stored = (
    goes_to D L E EL c users others i o at (record m { device = 0 }) ls q e
        (record k { flusher = next flusher_step.GiveDevice })
        (turned flusher_step.GiveDevice is served stored) may errand_step.Done true,
    tt,
    record { writer_goes_on = quiet; flusher_goes_on = still; step = (resting q, tt) },
  )
  flush_by flusher_step.StoreFailed is w served stored =
      stays _ ls _ (turned flusher_step.StoreFailed is served stored) still (ap D.failed served ∙ w)
  flush_by flusher_step.GiveFailed is w served stored = (
    user_fails D L E EL c (record m { device = 0 }) ls q e users
        (record k { flusher = next flusher_step.GiveFailed }) others
        (turned flusher_step.GiveFailed is served stored) i o at may (stands flusher_step.GiveFailed is) k.flusher.code,
    tt,
    record { writer_goes_on = quiet; flusher_goes_on = still; step = (resting q, ap D.failed served ∙ w) },
  )
  flush_by flusher_step.LoadWrite is w served stored = absurd w
  flush_by flusher_step.TakeDevice is w served stored = absurd w
  flush_by flusher_step.GiveBroken is w served stored = absurd w
  flush_by flusher_step.Failed is w served stored = absurd w
