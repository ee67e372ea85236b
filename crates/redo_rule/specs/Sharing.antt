-- A store that its actors share, as its run begins, and with all its seats given.
use Rattle.std.specs.Prelude.{List, Option, [], length, suc, zero, ℕ, ◌∷◌, ◌≡◌}
use lib.ListN.{get_elem?}
use mathlib.Core.Option.{some}
use Rattle.atomic_table.specs.declared.shared.Seat.{Seat}
use Rattle.model_core.specs.{Given}
use Rattle.model_core.specs.declared.words.Layout.{Layout}
use Rattle.redo_drive.specs.{listing_at, Listings, follower_of, HasGot, IsSameFollower}
use Rattle.redo_drive.specs.declared.actor.Actor.{Actor}
use Rattle.redo_rule.specs.Handing.{nothing}
use Rattle.redo_rule.specs.Mine.{heard_of}
use Rattle.redo_rule.specs.declared.law.About.{About}
use Rattle.redo_rule.specs.declared.law.Desk.{Desk}
use Rattle.redo_rule.specs.declared.law.Heard.{Heard}
use Rattle.redo_rule.specs.declared.law.Slot.{Slot}
use Rattle.redo_rule.specs.declared.law.Slot.TheVariants as slot
use Rattle.redo_rule.specs.declared.law.View.{View}
use Rattle.redo_store.specs.Part as store

-- both parts and the lists, in their slots
abbrev pub laid : {L D : Type 0} → Desk L → Listings → store.Part D → List (Slot L D)
laid desk lists stored = slot.Log desk ∷ slot.Pages (listing_at lists.lists 0) ∷ slot.Pages (listing_at lists.lists 1) ∷ slot.Pages (listing_at lists.lists 2) ∷ slot.Pages (listing_at lists.lists 3) ∷ slot.Data stored ∷ []

-- such are these slots
abbrev pub AreLaid : {L D : Type 0} → List (Slot L D) → Type 0
AreLaid {L} {D} slots = (desk : Desk L) × (lists : Listings) × (stored : store.Part D) × (slots ≡ laid desk lists stored)

module _ {L D : Type 0} where
  -- each of these seats knows this of its table, and its actor has handed on nothing yet
  pub record AreFresh (told : Option (About L D)) (seats : List (Seat (Slot L D) (View L D))) : Type 0 where
    pub knows : (i : ℕ) (seat : Seat (Slot L D) (View L D)) → get_elem? seats i ≡ some seat → seat.me.0.about ≡ told
    pub none : (i : ℕ) (seat : Seat (Slot L D) (View L D)) → get_elem? seats i ≡ some seat → heard_of seat.me.0 ≡ nothing

  -- each of them has these words
  abbrev pub AreLaidOut : Layout → List (Seat (Slot L D) (View L D)) → Type 0
  AreLaidOut layout seats = (i : ℕ) (seat : Seat (Slot L D) (View L D)) → get_elem? seats i ≡ some seat
      → seat.me.0.layout ≡ layout

  -- all that has been handed on by the actor of each number, as these seats know it
  abbrev pub heard_by : List (Seat (Slot L D) (View L D)) → ℕ → Heard
  heard_by [] number = nothing
  heard_by (seat ∷ seats) zero = heard_of seat.me.0
  heard_by (seat ∷ seats) (suc n) = heard_by seats n

-- These actors began as those, each in its seat of these; and all that a seat has heard, its actor's receiver got.
pub record HaveHeard {L D R : Type 0} (stands : R → List Given → Type 0) (starts : List (Actor R))
    (seats : List (Seat (Slot L D) (View L D))) (actors : List (Actor R)) : Type 0 where
  pub count : length actors ≡ length starts
  pub same : (i : ℕ) (a b : Actor R) → get_elem? starts i ≡ some a → get_elem? actors i ≡ some b
      → IsSameFollower (follower_of a) (follower_of b)
  pub got : (i : ℕ) (seat : Seat (Slot L D) (View L D)) (a b : Actor R) → get_elem? seats i ≡ some seat
      → get_elem? starts i ≡ some a → get_elem? actors i ≡ some b
      → HasGot stands (follower_of a) (heard_of seat.me.0).groups (follower_of b)
