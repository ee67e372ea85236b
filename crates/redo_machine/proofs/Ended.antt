-- Which users have ended, in the order of the seats.
use Rattle.std.proofs.Common.{List, [], ap, arith, false, get_or, inl, inr, length, refl, subst, suc, sym, true, zero, ℕ, ⊎_elim, ◌+◌, ◌<◌, ◌≤◌, ◌∙◌, ◌∷◌, ◌≡◌, ◌⊎◌}
use Rattle.std.specs.Prelude.{◌≢◌}
use native.Mathlib.Decide.{ℕ_discrete}
use lib.ListN.{get_elem?}
use mathlib.Core.Option.{some, some-injective, some-ne-none}
use Rattle.model_core.specs.States as model
use Rattle.model_core.specs.{UserState}
use Rattle.model_core.specs.declared.steps.UserStep.{UserStep}
use Rattle.model_core.specs.declared.steps.UserStep.TheVariants as user_step
use Rattle.model_running.specs.{HasEnded, HaveEnded}
use Rattle.redo_drive.proofs.Viewed.{length_views, view_at}
use Rattle.redo_machine.specs.OpenUsers.{IsFirstOpen, IsOpen, IsOpenUser, IsOver}
use Rattle.redo_drive.specs.{view_of, views_of}
use Rattle.redo_drive.specs.declared.actor.Actor.{Actor}
use Rattle.redo_useractor.specs.{has_ended}

step_is : (s : UserStep) → has_ended s ≡ true → (s ≡ user_step.Done) ⊎ (s ≡ user_step.Failed)
step_is user_step.Done is = inl refl
step_is user_step.Failed is = inr refl
step_is _ is = absurd (cc)

pub ended_is : (u : UserState) → has_ended u.step ≡ true → HasEnded u
ended_is u is = step_is u.step is

pub open_is : (u : UserState) → has_ended u.step ≡ false → HasEnded u → ⊥
open_is u is ended = ⊎_elim (λ d. let z : has_ended u.step ≡ true = ap has_ended d in absurd (cc)) (λ d. let z : has_ended u.step ≡ true = ap has_ended d in absurd (cc)) ended

-- an actor by the user that it is, if it is one
pub over_by_user : (a : model.Actor) (u : UserState) → a ≡ model.User u → HasEnded u → IsOver a
over_by_user a u is ended = subst IsOver (sym is) ended

pub over_without_user : (a : model.Actor) → ((u : UserState) → a ≢ model.User u) → IsOver a
over_without_user (model.User u) none = absurd (none u refl)
over_without_user _ none = tt

pub open_by_user : (a : model.Actor) (u : UserState) (user : ℕ) → a ≡ model.User u → IsOpenUser u user → IsOpen a user
open_by_user a u user is open_user = subst (λ (z : model.Actor). IsOpen z user) (sym is) open_user

-- below this seat each user has ended
abbrev pub EndedBelow : {R : Type 0} → ℕ → List (Actor R) → Type 0
EndedBelow seat actors = (j : ℕ) (u : UserState) → j < seat → get_elem? (views_of actors) j ≡ some (model.User u) → HasEnded u

past : (actors : List model.Actor) (seat : ℕ) (u : UserState) → get_elem? actors seat ≡ some (model.User u) → seat < length actors
past [] seat u at = absurd (some-ne-none (model.User u) (sym at))
past (x ∷ xs) zero u at = omega arith
past (x ∷ xs) (suc seat) u at = let r = past xs seat u at in omega arith

over_user : (a : model.Actor) (u : UserState) → IsOver a → a ≡ model.User u → HasEnded u
over_user (model.User v) u over is = let same : v ≡ u = cc in subst HasEnded same over
over_user _ u over is = absurd (cc)

pub below_more : {R : Type 0} (actors : List (Actor R)) (seat : ℕ) (d : Actor R) → seat < length actors
    → EndedBelow seat actors → IsOver (view_of (get_or actors seat d)) → EndedBelow (seat + 1) actors
below_more actors seat d l before over j u below at = elim (ℕ_discrete j seat) [
  | yes e ↦ (let here : some (view_of (get_or actors seat d)) ≡ some (model.User u) = sym (view_at actors seat d l) ∙ ap (get_elem? (views_of actors)) (sym e) ∙ at in over_user (view_of (get_or actors seat d)) u over (some-injective (view_of (get_or actors seat d)) (model.User u) here))
  | no n ↦ before j u (omega arith) at
]

pub all_ended : {R : Type 0} (actors : List (Actor R)) (seat : ℕ) → length actors ≤ seat → EndedBelow seat actors
    → HaveEnded (views_of actors)
all_ended actors seat all before j u at = before j u (let p = past (views_of actors) j u at in let n = length_views actors in omega arith) at

opened : (a : model.Actor) (user : ℕ) → IsOpen a user → (u : UserState) × (a ≡ model.User u) × IsOpenUser u user
opened (model.User u) user is = (u, refl, is)
opened _ user is = absurd is

pub first_open : {R : Type 0} (actors : List (Actor R)) (seat : ℕ) (d : Actor R) (user : ℕ) → seat < length actors
    → EndedBelow seat actors → IsOpen (view_of (get_or actors seat d)) user → IsFirstOpen (views_of actors) user
first_open actors seat d user l before is = let o = opened (view_of (get_or actors seat d)) user is in
    record { seat = seat; state = o.0; is = view_at actors seat d l ∙ ap some o.1; open_user = o.2; before = before }

-- a user that hasn't ended is one of those that would have
pub not_all : {R : Type 0} (actors : List (Actor R)) (seat : ℕ) (d : Actor R) (user : ℕ) → seat < length actors
    → IsOpen (view_of (get_or actors seat d)) user → HaveEnded (views_of actors) → ⊥
not_all actors seat d user l is ended = let o = opened (view_of (get_or actors seat d)) user is in
    o.2.not_ended (ended seat o.0 (view_at actors seat d l ∙ ap some o.1))

pub not_all_first : (actors : List model.Actor) (user : ℕ) → IsFirstOpen actors user → HaveEnded actors → ⊥
not_all_first actors user first ended = first.open_user.not_ended (ended first.seat first.state first.is)
