-- An actor that fails: its state tells that it has met a failure, and its code that the log part has a cause.
use Rattle.std.proofs.Common.{Bool, cond, false, inr, refl, subst, true, ℕ, ◌==◌, ◌≡◌}
use Rattle.model_core.proofs.Endings.{checkpointer_end, cleaner_end, closer_end, failed_last, flusher_end, user_failed, writer_end, reader_end}
use Rattle.model_core.proofs.FailedCalls.{HasStored}
use Rattle.model_core.specs.{Actor, checkpointer_ending, checkpointer_took, checkpointer_waits, cleaner_ending, cleaner_took, cleaner_waits, closer_ending, closer_took, closer_waits, flusher_ending, flusher_took, flusher_waits, heard, old_of, SharedWords, step_of, took, user_ending, user_took, user_waits, writer_ending, writer_took, writer_waits, reader_ending, reader_took, reader_waits, LogSide, Setup}
use Rattle.model_core.specs.States as actor
use Rattle.model_core.specs.declared.ops.Answer.{Answer}
use Rattle.model_core.specs.declared.ops.Step.{Step}
use Rattle.model_core.specs.declared.ops.Step.TheVariants as step
use Rattle.model_core.specs.declared.steps.CheckpointerStep.TheVariants as checkpointer_step
use Rattle.model_core.specs.declared.steps.CleanerStep.TheVariants as cleaner_step
use Rattle.model_core.specs.declared.steps.CloserStep.TheVariants as closer_step
use Rattle.model_core.specs.declared.steps.FlusherStep.TheVariants as flusher_step
use Rattle.model_core.specs.declared.steps.ReaderStep.TheVariants as reader_step
use Rattle.model_core.specs.declared.steps.UserStep.TheVariants as user_step
use Rattle.model_core.specs.declared.steps.WriterStep.TheVariants as writer_step
use Rattle.model_logcore.specs.{CheckpointerAt, FlusherAt, LogGhost, WriterAt, ReaderAt}
use Rattle.model_logcore.specs.LogFits.{LogFits}
use Rattle.model_logcore.specs.Watermarks.{HasMetFailure}

-- a step that ends by a failure was a check that found a code, or the actor's own last one
after : {S : Type 0} (wrap : S → Actor) (checks is_zero waits : Bool) (n code : ℕ) (ends : Step) (goes failed own : S) → HasMetFailure (wrap failed) → (ends ≡ step.Failed code → HasMetFailure (wrap own))
    → cond checks (cond is_zero step.Moved (step.Failed n)) (cond waits step.Idle ends) ≡ step.Failed code → HasMetFailure (cond checks (wrap (cond is_zero goes failed)) (wrap own))
after wrap true true waits n code ends goes failed own found last e = absurd (cc)
after wrap true false waits n code ends goes failed own found last e = found
after wrap false is_zero true n code ends goes failed own found last e = absurd (cc)
after wrap false is_zero false n code ends goes failed own found last e = last e

-- so the actor has met a failure
pub met : (a : Actor) (r : Answer) (code : ℕ) → step_of a r ≡ step.Failed code → HasMetFailure (took a r)
met (actor.User u) r code e =
    let own = user_took u (heard r) u.step in
    after actor.User u.checks (old_of r == 0) (user_waits u (heard r) u.step) (old_of r) code (user_ending own.code own.step) (record u { checks = false }) (record u { checks = false; code = old_of r; step = user_step.Failed }) own refl (user_failed own.code code own.step) e
met (actor.Writer s) r code e =
    let own = writer_took s r s.step in
    after actor.Writer s.checks (old_of r == 0) (writer_waits s r s.step) (old_of r) code (writer_ending own.code own.step) (record s { checks = false }) (record s { checks = false; code = old_of r; step = writer_step.Failed }) own (inr refl) (λ x. inr (failed_last (writer_ending own.code) writer_step.Failed own.code own.step (writer_end own.code own.step) code x)) e
met (actor.Flusher f) r code e =
    let own = flusher_took f r f.step in
    after actor.Flusher f.checks (old_of r == 0) (flusher_waits f r f.step) (old_of r) code (flusher_ending own.code own.step) (record f { checks = false }) (record f { checks = false; code = old_of r; step = flusher_step.Failed }) own (inr refl) (λ x. inr (failed_last (flusher_ending own.code) flusher_step.Failed own.code own.step (flusher_end own.code own.step) code x)) e
met (actor.Reader f) r code e =
    let own = reader_took f r f.step in
    after actor.Reader f.checks (old_of r == 0) (reader_waits f r f.step) (old_of r) code (reader_ending own.code own.step) (record f { checks = false }) (record f { checks = false; code = old_of r; step = reader_step.Failed }) own (inr refl) (λ x. inr (failed_last (reader_ending own.code) reader_step.Failed own.code own.step (reader_end own.code own.step) code x)) e
met (actor.Closer t) r code e =
    let own = closer_took t r t.step in
    after actor.Closer t.checks (old_of r == 0) (closer_waits t r t.step) (old_of r) code (closer_ending own.code own.step) (record t { checks = false }) (record t { checks = false; code = old_of r; step = closer_step.Failed }) own refl (failed_last (closer_ending own.code) closer_step.Failed own.code own.step (closer_end own.code own.step) code) e
met (actor.Cleaner v) r code e =
    let own = cleaner_took v r v.step in
    after actor.Cleaner v.checks (old_of r == 0) (cleaner_waits v r v.step) (old_of r) code (cleaner_ending own.code own.step) (record v { checks = false }) (record v { checks = false; code = old_of r; step = cleaner_step.Failed }) own refl (failed_last (cleaner_ending own.code) cleaner_step.Failed own.code own.step (cleaner_end own.code own.step) code) e
met (actor.Checkpointer t) r code e =
    let own = checkpointer_took t r t.step in
    after actor.Checkpointer t.checks (old_of r == 0) (checkpointer_waits t r t.step) (old_of r) code (checkpointer_ending own.code own.step) (record t { checks = false }) (record t { checks = false; code = old_of r; step = checkpointer_step.Failed }) own (inr refl) (λ x. inr (failed_last (checkpointer_ending own.code) checkpointer_step.Failed own.code own.step (checkpointer_end own.code own.step) code x)) e

-- who has stored a failed call's code in FAILED, about to give the log part back, has a code that the part has
pub stored_cause : (E : LogSide) (c : Setup) (m : SharedWords) (g : LogGhost) (p : E.Part) (n : ℕ) (a : actor.Actor) (code : ℕ) → HasStored a code → LogFits E c m g p n a → E.Cause p code
stored_cause E c m g p n (actor.Writer s) code h fits = subst (E.Cause p) h.1 (subst (WriterAt E c m g p n s) h.0 fits.step).1
stored_cause E c m g p n (actor.Flusher f) code h fits = subst (E.Cause p) h.1 (subst (FlusherAt E c m g p f) h.0 fits.step).1
stored_cause E c m g p n (actor.Reader f) code h fits = subst (E.Cause p) h.1 (subst (ReaderAt E c m g p f) h.0 fits.step).1
stored_cause E c m g p n (actor.Checkpointer t) code h fits = subst (E.Cause p) h.1 (subst (CheckpointerAt E c m g p t) h.0 fits.step).1
stored_cause E c m g p n (actor.User u) code h fits = absurd h
stored_cause E c m g p n (actor.Closer t) code h fits = absurd h
stored_cause E c m g p n (actor.Cleaner v) code h fits = absurd h
