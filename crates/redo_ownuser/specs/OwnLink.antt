-- The way of a user that writes for itself, from its reservation to its link.
use Rattle.std.specs.Prelude.{cond, false, ℕ, ◌+◌, ◌<◌, ◌≡◌, ◌≢◌}
use Rattle.model_core.specs.{UserState}
use Rattle.model_core.specs.declared.ops.Step.{Step}
use Rattle.model_core.specs.declared.ops.Step.TheVariants as step
use Rattle.model_core.specs.declared.steps.UserStep.TheVariants as user_step
use Rattle.model_own.specs.{OwnUser}
use Rattle.model_own.specs.declared.errand.ErrandStep.TheVariants as errand_step
use Rattle.redo_useractor.specs.ToLink.{lacks_room, linking_steps, to_link}

-- An answer to an Op of its own brings a user nearer, as `UserActor::took` says it: once it has reserved, it has one Op
-- behind it; then each Op that doesn't wait is one less, but those from a load of WTAIL that finds no room up to the one
-- that finds some.
pub record ComesNearer (old : UserState) (ends : Step) (new : UserState) : Type 0 where
  pub reserves : old.checks ≡ false → old.step ≡ user_step.Reserve → linking_steps new ≡ to_link new + 1
  pub nearer : old.checks ≡ false → 0 < to_link old → ends ≢ step.Idle
      → to_link old ≡ to_link new + cond (lacks_room new) 0 1

-- An answer brings a user that writes for itself nearer by an Op of its own alone. From where it sets out on an errand
-- until that is over it stands still, unless a failure ends it.
pub record ComesNearerAlone (old : OwnUser) (ends : Step) (new : OwnUser) : Type 0 where
  pub own : old.errand ≡ errand_step.Done → new.errand ≡ errand_step.Done → ComesNearer old.user ends new.user
  pub errand : (old.errand ≡ errand_step.Done → new.errand ≡ errand_step.Done → ⊥)
      → ((code : ℕ) → ends ≢ step.Failed code) → to_link new.user ≡ to_link old.user
