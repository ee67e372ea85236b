-- The actors as the definitions see them, seat by seat.
use Rattle.std.proofs.Common.{List, [], ap, arith, get_or, length, refl, slice_get, subst, suc, sym, zero, ℕ, ◌<◌, ◌∷◌, ◌≡◌}
use Rattle.std.specs.Prelude.{IfSome}
use lib.ListN.{get_elem?}
use mathlib.Core.Option.{some, some-injective, some-ne-none}
use Rattle.model_core.specs.States as model
use Rattle.redo_drive.specs.History.{view_of, views_of}
use Rattle.redo_drive.specs.declared.actor.Actor.{Actor}

-- there are as many
pub length_views : {R : Type 0} (actors : List (Actor R)) → length (views_of actors) ≡ length actors
length_views [] = refl
length_views (x ∷ xs) = ap suc (length_views xs)

-- the actor at a seat
pub view_at : {R : Type 0} (actors : List (Actor R)) (seat : ℕ) (d : Actor R) → seat < length actors → get_elem? (views_of actors) seat ≡ some (view_of (get_or actors seat d))
view_at [] seat d l = absurd (omega arith)
view_at (x ∷ xs) zero d l = refl
view_at (x ∷ xs) (suc seat) d l = view_at xs seat d (omega arith)

pub views_at : {R : Type 0} (actors : List (Actor R)) (seat : ℕ) (a : Actor R) → get_elem? actors seat ≡ some a
    → get_elem? (views_of actors) seat ≡ some (view_of a)
views_at [] seat a at = absurd (some-ne-none a (sym at))
views_at (x ∷ xs) zero a at = ap (λ o. some (view_of o)) (some-injective x a at)
views_at (x ∷ xs) (suc seat) a at = views_at xs seat a at

pub own_at : {R : Type 0} (actors : List (Actor R)) (seat : ℕ) (d : Actor R) → seat < length actors
    → get_elem? actors seat ≡ some (get_or actors seat d)
own_at [] seat d l = absurd (omega arith)
own_at (x ∷ xs) zero d l = refl
own_at (x ∷ xs) (suc seat) d l = own_at xs seat d (omega arith)

-- what is so of the actor at a seat
pub so_at : {R : Type 0} (Is : model.Actor → Type 0) (actors : List (Actor R)) (seat : ℕ) (who : model.Actor) → IfSome (slice_get actors seat) (λ actor. Is (view_of actor)) → get_elem? (views_of actors) seat ≡ some who → Is who
so_at Is [] seat who is at = absurd (some-ne-none who (sym at))
so_at Is (x ∷ xs) zero who is at = subst Is (some-injective (view_of x) who at) is
so_at Is (x ∷ xs) (suc seat) who is at = so_at Is xs seat who is at
