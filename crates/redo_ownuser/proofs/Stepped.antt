-- A user's own step, where it doesn't check for a failure: its state, and whether it waits.
use Rattle.std.proofs.Common.{Bool, ap, cond, false, refl, subst, sym, true, ℕ, ◌==◌, ◌∙◌, ◌≡◌}
use Rattle.model_own.proofs.SetsOut.{out_at}
use Rattle.model_own.specs.{OwnUser, keeps_helped, loads_again, own_stepped, sets_out, MayHelpAt}
use Rattle.model_own.specs.declared.errand.ErrandStep.TheVariants as errand_step
use Rattle.model_core.proofs.Rests.{rests}
use Rattle.model_core.specs.{Actor, checked_of, heard, next, old_of, step_of, took, user_ending, user_program, user_took, user_waits, UserState}
use Rattle.model_core.specs.declared.ops.Answer.{Answer}
use Rattle.model_core.specs.declared.ops.Answer.TheVariants as answer
use Rattle.model_core.specs.declared.ops.Op.TheVariants as op
use Rattle.model_core.specs.declared.ops.Step.{Step}
use Rattle.model_core.specs.declared.ops.Step.TheVariants as step
use Rattle.model_core.specs.declared.steps.UserStep.{UserStep}
use Rattle.model_core.specs.declared.steps.UserStep.TheVariants as user_step
use Rattle.model_core.specs.States as actor
use Rattle.redo_ownuser.specs.OwnFits.{ends_as, is_idle}

-- who is on an errand hasn't ended
pub stands : (code : ℕ) (s : UserStep) → MayHelpAt s → user_ending code s ≡ step.Moved
stands code user_step.LoadCheckpoint may = refl
stands code user_step.LoadWrite may = refl
stands code user_step.LoadWtail may = refl
stands code user_step.ReloadWtail may = refl
stands code user_step.AwaitMark may = refl
stands code _ may = absurd may

abbrev user_of : UserState → Actor → UserState
user_of d (actor.User v) = v
user_of d _ = d

module _ (u : UserState) (r : Answer) (asks : u.checks ≡ false) where
  abbrev then : UserState
  then = user_took u (heard r) u.step

  pub took_is : (v : UserState) → ◌≡◌ {A = Actor} (actor.User v) (took (actor.User u) r) → v ≡ then
  took_is v is =
      let by : Bool → Actor = λ b. cond b (actor.User (checked_of user_program u (old_of r))) (actor.User then) in
      let own : ◌≡◌ {A = Actor} (took (actor.User u) r) (actor.User then) = ap by asks in
      ap (user_of u) (is ∙ own)

  -- how its step ends, and whether it waits
  pub step_is : step_of (actor.User u) r ≡ cond (user_waits u (heard r) u.step) step.Idle (user_ending then.code then.step)
  step_is =
      let checked : Step = cond (old_of r == 0) step.Moved (step.Failed (old_of r)) in
      let own : Step = cond (user_waits u (heard r) u.step) step.Idle (user_ending then.code then.step) in
      ap (λ (b : Bool). cond b checked own) asks

  pub waits_is : is_idle (step_of (actor.User u) r) ≡ user_waits u (heard r) u.step
  waits_is = ap is_idle step_is ∙ idle_by (user_waits u (heard r) u.step) then.code then.step
    where
      idle_by : (w : Bool) (code : ℕ) (s : UserStep) → is_idle (cond w step.Idle (user_ending code s)) ≡ w
      idle_by true code s = refl
      idle_by false code user_step.Done = refl
      idle_by false code user_step.Failed = refl
      idle_by false code _ = refl

-- where it sets out, the step it then stands at hasn't ended
goes : (s : UserStep) (code : ℕ) → MayHelpAt s → user_ending code (loads_again s) ≡ step.Moved
goes user_step.LoadCheckpoint code may = refl
goes user_step.LoadWrite code may = refl
goes user_step.LoadWtail code may = refl
goes user_step.ReloadWtail code may = refl
goes user_step.AwaitMark code may = refl
goes _ code may = absurd may

module _ (o : OwnUser) (n : ℕ) where
  abbrev stepped : UserState
  stepped = user_took o.user n o.user.step

  abbrev set_out : UserState
  set_out = record stepped { checks = false; step = loads_again stepped.step }

  abbrev waits : Bool → Bool
  waits out = cond out false (user_waits o.user n o.user.step)

  abbrev state : Bool → OwnUser
  state out = cond out (record o { user = set_out; errand = errand_step.TakeDevice })
      (record o { user = stepped; helped = cond (keeps_helped o.user.step) o.helped false })

  -- how its own step ends, where it sets out and where it doesn't
  pub stepped_out : sets_out o n ≡ true → step.Moved ≡ ends_as (waits (sets_out o n)) (own_stepped o n)
  stepped_out is = subst (λ (b : Bool). step.Moved ≡ ends_as (waits b) (state b)) (sym is)
      (sym (goes stepped.step stepped.code (out_at o n is)))

  -- the same for the user as it is then
  pub stepped_to : (v : UserState) (h : Bool) → sets_out o n ≡ true → v ≡ set_out
      → step.Moved ≡ ends_as (waits (sets_out o n)) (record { user = v; errand = errand_step.TakeDevice; helped = h })
  stepped_to v h is e =
      let to : Bool → UserState → Type 0 =
      λ b u. step.Moved ≡ ends_as (waits b) (record { user = u; errand = errand_step.TakeDevice; helped = h }) in
      subst (to (sets_out o n)) (sym e)
      (subst (λ (b : Bool). to b set_out) (sym is) (sym (goes stepped.step stepped.code (out_at o n is))))

pub stepped_on : (o : OwnUser) (r : Answer) → o.user.checks ≡ false → sets_out o (heard r) ≡ false
    → step_of (actor.User o.user) r ≡ ends_as (waits o (heard r) (sets_out o (heard r))) (own_stepped o (heard r))
stepped_on o r asks is =
    subst (λ (b : Bool). step_of (actor.User o.user) r ≡ ends_as (waits o (heard r) b) (state o (heard r) b)) (sym is)
    (step_is o.user r asks)

-- a user that rests stays as it is
pub rests_same : (u v : UserState) → next (actor.User u) ≡ op.Rest
    → ◌≡◌ {A = Actor} (actor.User v) (took (actor.User u) answer.Rested) → v ≡ u
rests_same u v is took_is = ap (user_of u) (took_is ∙ rests (actor.User u) is answer.Rested)
