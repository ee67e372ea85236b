-- How a step of a user ends.
use Rattle.std.specs.Prelude.{Bool, cond, false, true, ℕ}
use Rattle.model_core.specs.{user_ending, user_waits, UserState}
use Rattle.model_core.specs.declared.ops.Step.{Step}
use Rattle.model_core.specs.declared.ops.Step.TheVariants as step
use Rattle.model_core.specs.declared.steps.UserStep.{UserStep}
use Rattle.model_core.specs.declared.steps.UserStep.TheVariants as user_step

-- it waits, or has come to a state that may be its last
abbrev pub step_end : UserState → ℕ → UserStep → UserState → Step
step_end old n s new = cond (user_waits old n s) step.Idle (user_ending new.code new.step)

-- the user has ended: its last commit is answered, or it has met a failure
abbrev pub has_ended : UserStep → Bool
has_ended user_step.Done = true
has_ended user_step.Failed = true
has_ended _ = false
