-- A seat of this table, whose view is the actor's state.
use Rattle.std.specs.Prelude.{List, None, Option, [], ℕ, ◌++◌, ◌∷◌, ◌≡◌, ◌⊎◌}
use Rattle.atomic_table.specs.Seated.{TableId}
use Rattle.atomic_table.specs.declared.shared.Seat.{Seat}
use Rattle.model_core.specs.States as model
use Rattle.model_core.specs.{filled, Given, next, step_of, took, word_count, hand}
use Rattle.model_core.specs.declared.ops.Answer.{Answer}
use Rattle.model_core.specs.declared.ops.Answer.TheVariants as answer
use Rattle.model_core.specs.declared.ops.Op.TheVariants as op
use Rattle.model_core.specs.declared.ops.Step.{Step}
use Rattle.redo_disk.specs.{Seen}
use Rattle.redo_drive.specs.{follower_of, HasGot, IsSameFollower}
use Rattle.redo_drive.specs.declared.actor.Actor.{Actor}
use Rattle.redo_rule.specs.Handing.{nothing}
use Rattle.redo_rule.specs.Plays.{Carries, MayGo, Shown}
use Rattle.redo_rule.specs.declared.law.Block.{Block}
use Rattle.redo_rule.specs.declared.law.Errand.{Errand}
use Rattle.redo_rule.specs.declared.law.Heard.{Heard}
use Rattle.redo_rule.specs.declared.law.Numbered.{Numbered}
use Rattle.redo_rule.specs.declared.law.Slot.{Slot}
use Rattle.redo_rule.specs.declared.law.TheConstants.{SLOTS}
use Rattle.redo_rule.specs.declared.law.View.{View}

-- the number of a seat's actor
abbrev pub number_in : List Numbered → ℕ
number_in [] = 0
number_in (x ∷ xs) = x.number

abbrev pub number_of : {L D : Type 0} → View L D → ℕ
number_of v = number_in v.seats

-- all that a seat's actor has handed on
abbrev pub heard_in : List Numbered → Heard
heard_in [] = nothing
heard_in (x ∷ xs) = x.heard

abbrev pub heard_of : {L D : Type 0} → View L D → Heard
heard_of v = heard_in v.seats

-- THE SEAT OF AN ACTOR, LATER. It keeps its number, and what it knows of its table and its words; the groups that it has heard since, the
-- actor's receiver got; it has appended no fewer blocks; and no page was read in it.
pub record IsSameSeat {L D R : Type 0} (stands : R → List Given → Type 0) (v : View L D) (a : Actor R) (w : View L D) (b : Actor R) : Type 0 where
  pub about : w.about ≡ v.about
  pub number : number_of w ≡ number_of v
  pub layout : w.layout ≡ v.layout
  pub same : IsSameFollower (follower_of a) (follower_of b)
  pub since : List Given
  pub heard : (heard_of w).groups ≡ (heard_of v).groups ++ since
  pub appended : List Block
  pub blocks : (heard_of w).blocks ≡ (heard_of v).blocks ++ appended
  pub got : HasGot stands (follower_of a) since (follower_of b)
  pub reads : (heard_of w).reads ≡ (heard_of v).reads

-- THE SEAT IS AT THIS TABLE, its view is the actor's state, it has the slot that the actor holds, and the actor may go on. It
-- plays by its own program alone.
pub record Mine {L D : Type 0} (table : TableId) (seat : Seat (Slot L D) (View L D)) (a : model.Actor) : Type 0 where
  pub of : seat.table_id ≡ table
  pub slots : table.slots ≡ SLOTS
  pub words : table.words ≡ word_count seat.me.0.layout
  pub who : Numbered
  pub one : seat.me.0.seats ≡ who ∷ []
  pub state : who.actor ≡ a
  pub plain : ◌≡◌ {A = Option Errand} who.errand None
  pub carries : Carries (hand a) seat.me
  pub may : MayGo seat.me.0.layout seat.me.0.held seat.me.0.data_part a

-- the actor of this seat has had a turn of the definition, with some answer and with what that put into it, in the run
-- that its table is about, as the seat was told; and its step ended so
pub record HasPlayed {L D : Type 0} (log_seen : L → Seen) (data_seen : D → Seen) (v : View L D)
    (a : model.Actor) (step : Step) (b : model.Actor) : Type 0 where
  pub answer : Answer
  pub shown : Shown log_seen data_seen v.about (number_of v) (heard_of v) a answer
  pub is : b ≡ took (filled a shown.turn.filling) answer
  pub ends : step ≡ step_of (filled a shown.turn.filling) answer

-- an actor that has ended rests; any other has had its turn
abbrev pub HasGone : {L D : Type 0} (log_seen : L → Seen) (data_seen : D → Seen) (v : View L D)
    (a : model.Actor) (step : Step) (b : model.Actor) → Type 0
HasGone log_seen data_seen v a step b = ((next a ≡ op.Rest) × (b ≡ a) × (step ≡ step_of a answer.Rested))
    ⊎ HasPlayed log_seen data_seen v a step b
