-- Which answers a user that writes for itself may be given, and when the log's work may be played.
use Rattle.std.specs.Prelude.{Bool, cond, false, true, ◌≡◌}
use Rattle.model_core.specs.declared.ops.Step.{Step}
use Rattle.model_core.specs.declared.ops.Step.TheVariants as step
use Rattle.model_core.specs.{user_ending, AnswerFits}
use Rattle.model_core.specs.declared.ops.Answer.{Answer}
use Rattle.model_core.specs.declared.ops.Answer.TheVariants as answer
use Rattle.model_own.specs.{LogWork, OwnUser}
use Rattle.model_own.specs.declared.errand.ErrandStep.{ErrandStep}
use Rattle.model_own.specs.declared.errand.ErrandStep.TheVariants as errand_step
use Rattle.model_core.specs.States as actor

-- neither the writer nor the flusher checks for a failure while its part is done
abbrev pub WorkGoesOn : ErrandStep → LogWork → Type 0
WorkGoesOn errand_step.Write k = k.writer.checks ≡ false
WorkGoesOn errand_step.Flush k = k.flusher.checks ≡ false
WorkGoesOn _ k = Unit {0}

abbrev pub ErrandAnswerFits : OwnUser → LogWork → Answer → ErrandStep → Type 0
ErrandAnswerFits o k a errand_step.Done = AnswerFits (actor.User o.user) a
ErrandAnswerFits o k a errand_step.Write = AnswerFits (actor.Writer k.writer) a × (k.writer.checks ≡ false)
ErrandAnswerFits o k a errand_step.Flush = AnswerFits (actor.Flusher k.flusher) a × (k.flusher.checks ≡ false)
ErrandAnswerFits o k a _ = Unit {0}

-- what it is given: of the Op that it has asked for
abbrev pub OwnAnswerFits : OwnUser → LogWork → Answer → Type 0
OwnAnswerFits o k a = cond o.user.checks (AnswerFits (actor.User o.user) a) (ErrandAnswerFits o k a o.errand)

-- the same where it hasn't the log's work in hand, and doesn't get it
abbrev pub IsNotTaken : Answer → Type 0
IsNotTaken (answer.Taken n) = ⊥
IsNotTaken answer.Broken = ⊥
IsNotTaken _ = Unit {0}

abbrev pub AloneErrandFits : OwnUser → Answer → ErrandStep → Type 0
AloneErrandFits o a errand_step.Done = AnswerFits (actor.User o.user) a
AloneErrandFits o a errand_step.TakeDevice = IsNotTaken a
AloneErrandFits o a _ = ⊥

abbrev pub AloneFits : OwnUser → Answer → Type 0
AloneFits o a = cond o.user.checks (AnswerFits (actor.User o.user) a) (AloneErrandFits o a o.errand)

-- it waits
abbrev pub is_idle : Step → Bool
is_idle step.Idle = true
is_idle _ = false

-- how a step that is no check ends
abbrev pub ends_as : Bool → OwnUser → Step
ends_as waits o = cond waits step.Idle (user_ending o.user.code o.user.step)
