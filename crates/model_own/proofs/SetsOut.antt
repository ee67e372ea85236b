-- Where a user would wait and sets out on an errand, it stands at one of the steps for that.
use Rattle.std.proofs.Common.{Bool, cond, eqb, false, length, refl, true, ℕ, ◌≡◌}
use Rattle.model_core.specs.{advance_next, answered, can_link, changes, frees, has_passed, has_room, has_space, stays_put, tail_of, user_took, user_waits, UserState, with_link_room, with_mark, without_link_room}
use Rattle.model_core.specs.ActorProgram.{opposite}
use Rattle.model_core.specs.declared.steps.UserStep.{UserStep}
use Rattle.model_core.specs.declared.steps.UserStep.TheVariants as user_step
use Rattle.model_own.specs.OwnWrites.{OwnUser, helps_at, sets_out}
use Rattle.model_own.specs.ErrandFits.{MayHelpAt}

space_at : (b : Bool) (x y : UserState) → opposite b ≡ true → MayHelpAt y.step → MayHelpAt (cond b x y).step
space_at true x y z w = absurd (cc)
space_at false x y z w = w

put_at : (b d : Bool) (x y : UserStep) → b ≡ true → MayHelpAt (cond b user_step.LoadWtail (cond d x y))
put_at true d x y z = tt
put_at false d x y z = absurd (cc)

waits_at : (u : UserState) (n : ℕ) (s : UserStep) → user_waits u n s ≡ true → helps_at s ≡ true
    → MayHelpAt (user_took u n s).step
waits_at u n user_step.LoadSn z h = space_at (has_space u n)
    (record u { page = 0; cell = 0; step = cond (eqb (length (changes u)) 0) user_step.Reserve user_step.TakeLatch })
    (record u { checks = true; step = user_step.LoadCheckpoint }) z tt
waits_at u n user_step.LoadWrite z h = space_at (has_room u n)
    (record u { loaded = record u.loaded { write = n }; step = user_step.AddCell })
    (record u { loaded = record u.loaded { write = n }; checks = true; step = user_step.LoadWrite }) z tt
waits_at u n (user_step.AdvanceWritten s) z h = put_at (stays_put u.advance n s) (frees s) user_step.ReloadWtail
    (user_step.AdvanceWritten (advance_next u.advance n s)) z
waits_at u n user_step.ReloadWtail z h = space_at (can_link u (tail_of n)) (with_link_room u n)
    (without_link_room u n true user_step.LoadWtail) z tt
waits_at u n user_step.AwaitMark z h = space_at (has_passed u n) (answered (record u { loaded = with_mark u n }))
    (record u { loaded = with_mark u n; checks = true; step = user_step.AwaitMark }) z tt
waits_at u n _ z h = absurd (cc)

out_of : (w h x : Bool) → cond w (cond h x false) false ≡ true → (w ≡ true) × (h ≡ true)
out_of true true x e = (refl, refl)
out_of true false x e = absurd (cc)
out_of false h x e = absurd (cc)

pub out_at : (o : OwnUser) (n : ℕ) → sets_out o n ≡ true → MayHelpAt (user_took o.user n o.user.step).step
out_at o n is =
    let both = out_of (user_waits o.user n o.user.step) (helps_at o.user.step) (opposite o.helped) is in
    waits_at o.user n o.user.step both.0 both.1
