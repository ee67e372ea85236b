-- At which steps a user may be on which part of an errand.
use Rattle.std.specs.Prelude.{Bool, false, true, ◌≡◌}
use Rattle.model_core.specs.{UserState}
use Rattle.model_own.specs.declared.errand.ErrandStep.{ErrandStep}
use Rattle.model_core.specs.declared.steps.UserStep.{UserStep}
use Rattle.model_own.specs.declared.errand.ErrandStep.TheVariants as errand_step
use Rattle.model_core.specs.declared.steps.UserStep.TheVariants as user_step

-- the steps at which a user may be on an errand
abbrev pub MayHelpAt : UserStep → Type 0
MayHelpAt user_step.LoadCheckpoint = Unit {0}
MayHelpAt user_step.LoadWrite = Unit {0}
MayHelpAt user_step.LoadWtail = Unit {0}
MayHelpAt user_step.ReloadWtail = Unit {0}
MayHelpAt user_step.AwaitMark = Unit {0}
MayHelpAt _ = ⊥

-- A user on an errand stands at one of them, and with the log part in hand it doesn't check for a failure.
abbrev pub ErrandFits : UserState → ErrandStep → Type 0
ErrandFits u errand_step.Done = Unit {0}
ErrandFits u errand_step.TakeDevice = MayHelpAt u.step
ErrandFits u _ = MayHelpAt u.step × (u.checks ≡ false)

-- it has the log part and the log's work in hand
abbrev pub has_work : ErrandStep → Bool
has_work errand_step.Done = false
has_work errand_step.TakeDevice = false
has_work _ = true
