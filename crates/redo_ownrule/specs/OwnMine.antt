-- A seat of this table, whose view is the state of a user that writes for itself.
use Rattle.std.specs.Prelude.{Bool, List, Option, Some, [], cond, false, true, ℕ, ◌∷◌, ◌≡◌, ◌⊎◌}
use Rattle.atomic_table.specs.Seated.{TableId}
use Rattle.atomic_table.specs.Table.{Me}
use Rattle.atomic_table.specs.declared.shared.Seat.{Seat}
use Rattle.model_core.specs.{next, step_of, word_count, hand, IsFreeToCheck}
use Rattle.model_core.specs.States as model
use Rattle.model_core.specs.declared.ops.Answer.{Answer}
use Rattle.model_core.specs.declared.ops.Answer.TheVariants as answer
use Rattle.model_core.specs.declared.ops.Op.TheVariants as op
use Rattle.model_core.specs.declared.ops.Step.{Step}
use Rattle.model_own.specs.{LogWork, own_goes_on, own_step_of, OwnUser, has_work}
use Rattle.model_own.specs.ErrandFits.{ErrandFits}
use Rattle.redo_disk.specs.{Seen}
use Rattle.redo_ownrule.specs.OwnPlays.{HasWork, IsOwn, OwnMayGo, OwnShown, OwnStepped, with_work}
use Rattle.redo_ownuser.specs.OwnFits.{AloneFits}
use Rattle.redo_rule.specs.Cutting.{IsHome}
use Rattle.redo_rule.specs.Mine.{heard_of, number_of}
use Rattle.redo_rule.specs.Plays.{Carries}
use Rattle.redo_rule.specs.declared.law.Desk.{Desk}
use Rattle.redo_rule.specs.declared.law.Numbered.{Numbered}
use Rattle.redo_rule.specs.declared.law.Slot.{Slot}
use Rattle.redo_rule.specs.declared.law.Slot.TheVariants as slot
use Rattle.redo_rule.specs.declared.law.TheConstants.{LOG_SLOT, SLOTS}
use Rattle.redo_rule.specs.declared.law.View.{View}

module _ {L D : Type 0} where
  -- A seat carries the log part, with the log's work, while its user has that in hand, and else what any user carries.
  abbrev pub CarriesWork : Bool → model.Actor → Me (Slot L D) (View L D) → Type 0
  CarriesWork has a me = cond has
      ((desk : Desk L) × (k : LogWork) × (desk.work ≡ Some k) × (me.1 ≡ (LOG_SLOT, slot.Log desk) ∷ [])
      × (me.0.held ≡ Some (slot.Log desk)))
      (Carries (hand a) me)

-- THE SEAT IS AT THIS TABLE, its view is the user's state and its errand, it has the slot that the user holds, and the user
-- may go on.
pub record OwnMine {L D : Type 0} (table : TableId) (seat : Seat (Slot L D) (View L D)) (o : OwnUser) : Type 0 where
  pub of : seat.table_id ≡ table
  pub slots : table.slots ≡ SLOTS
  pub words : table.words ≡ word_count seat.me.0.layout
  pub who : Numbered
  pub one : seat.me.0.seats ≡ who ∷ []
  pub own : IsOwn who o
  pub carries : CarriesWork (has_work o.errand) (model.User o.user) seat.me
  pub stands : ErrandFits o.user o.errand
  pub free : IsFreeToCheck (model.User o.user)
  pub may : (k : LogWork) → HasWork seat.me.0.held o k → OwnMayGo seat.me.0.layout seat.me.0.held o k

-- it has nothing to do with the data part
pub record IsOwnSeat {L D : Type 0} (table : TableId) (seat : Seat (Slot L D) (View L D)) (o : OwnUser) : Type 0 where
  pub mine : OwnMine table seat o
  pub home : IsHome seat.me.0

-- its seat later: what it knows of its table, of its words and of the data part, its number, and what it has heard stay
pub record KeepsOwnSeat {L D : Type 0} (v w : View L D) : Type 0 where
  pub about : w.about ≡ v.about
  pub number : number_of w ≡ number_of v
  pub layout : w.layout ≡ v.layout
  pub heard : heard_of w ≡ heard_of v
  pub data_part : w.data_part ≡ v.data_part

-- The table's step is made for a user: its seat's view is what follows from this answer.
pub record HasStepped {L D : Type 0} (log_seen : L → Seen) (data_seen : D → Seen) (table : TableId) (v : View L D)
    (token : Seat (Slot L D) (View L D)) (o : OwnUser) (r : Answer) : Type 0 where
  pub of : token.table_id ≡ table
  pub slots : table.slots ≡ SLOTS
  pub words : table.words ≡ word_count v.layout
  pub who : Numbered
  pub was : v.seats ≡ who ∷ []
  pub stands : ErrandFits o.user o.errand
  pub work : LogWork
  pub held : Option (Slot L D)
  pub carried : List (ℕ × Slot L D)
  pub stepped : OwnStepped log_seen data_seen who o work r held carried v token.me

-- The user is to take the answer now. Where the log's work is in its hand then, that has the change still to come.
pub record IsAnswering {L D : Type 0} (log_seen : L → Seen) (data_seen : D → Seen) (table : TableId) (carries_work : Bool)
    (v : View L D) (token : Seat (Slot L D) (View L D)) (o : OwnUser) (r : Answer) : Type 0 where
  pub step : HasStepped log_seen data_seen table v token o r
  pub has : cond carries_work
      ((desk : Desk L) × (desk.work ≡ Some step.work) × (step.carried ≡ (LOG_SLOT, slot.Log desk) ∷ [])
      × (step.held ≡ Some (slot.Log (with_work desk (own_goes_on o step.work r).1)))
      × (has_work (own_goes_on o step.work r).0.errand ≡ true))
      (AloneFits o r × Carries (hand (model.User (own_goes_on o step.work r).0.user)) token.me
      × (has_work (own_goes_on o step.work r).0.errand ≡ false))

-- The user of this seat has had a turn of its own, with some answer and with the log's work as it was then; its step ended
-- so.
pub record OwnHasPlayed {L D : Type 0} (log_seen : L → Seen) (data_seen : D → Seen) (v : View L D) (o : OwnUser)
    (step : Step) (then : OwnUser) : Type 0 where
  pub work : LogWork
  pub answer : Answer
  pub shown : OwnShown log_seen data_seen v.about (number_of v) o work answer
  pub is : then ≡ (own_goes_on o work answer).0
  pub ends : step ≡ own_step_of o work answer

-- a user that has ended rests; any other has had its turn
abbrev pub OwnHasGone : {L D : Type 0} (log_seen : L → Seen) (data_seen : D → Seen) (v : View L D) (o : OwnUser)
    (step : Step) (then : OwnUser) → Type 0
OwnHasGone log_seen data_seen v o step then =
    ((next (model.User o.user) ≡ op.Rest) × (then ≡ o) × (step ≡ step_of (model.User o.user) answer.Rested))
    ⊎ OwnHasPlayed log_seen data_seen v o step then
