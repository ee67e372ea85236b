-- A user's seat after an Op, and what it asks for.
use Rattle.std.proofs.Common.{List, Some, [], ap, subst, sym, true, ℕ, ◌∙◌, ◌∷◌, ◌≡◌}
use Rattle.atomic_table.specs.Seated.{TableId}
use Rattle.atomic_table.specs.Table.{rest}
use Rattle.atomic_table.specs.declared.shared.Seat.{Seat}
use Rattle.model_core.specs.{next, AnswerFits}
use Rattle.model_core.specs.States as model
use Rattle.model_core.specs.declared.ops.Answer.TheVariants as answer
use Rattle.model_core.specs.declared.ops.Op.{Op}
use Rattle.model_core.specs.declared.ops.Op.TheVariants as op
use Rattle.model_core.specs.declared.ops.Step.{Step}
use Rattle.model_own.specs.{LogWork, own_next, OwnUser, has_work}
use Rattle.redo_disk.specs.{Seen}
use Rattle.redo_ownrule.proofs.OwnAnswers.{seat_with}
use Rattle.redo_ownrule.proofs.OwnDevice.{has_w, only_work, the_slot}
use Rattle.redo_ownrule.proofs.OwnMay.{own_rests}
use Rattle.redo_ownrule.proofs.OwnOps.{never}
use Rattle.redo_ownrule.proofs.OwnStepping as stepping
use Rattle.redo_ownrule.specs.OwnMine.{IsOwnSeat, KeepsOwnSeat, OwnHasPlayed, OwnMine}
use Rattle.redo_ownrule.specs.OwnOp.{OwnHasPlayedOp}
use Rattle.redo_ownrule.specs.OwnSlots.{GoesOnIn, LiesIn}
use Rattle.redo_ownrule.specs.Playing.{OwnAsks}
use Rattle.redo_rule.specs.declared.law.Desk.{Desk}
use Rattle.redo_rule.specs.declared.law.Slot.{Slot}
use Rattle.redo_rule.specs.declared.law.Slot.TheVariants as slot
use Rattle.redo_rule.specs.declared.law.View.{View}

module _ {L D : Type 0} {table : TableId} {seat : Seat (Slot L D) (View L D)} {o : OwnUser}
    (its : IsOwnSeat table seat o) where
  abbrev mine : OwnMine table seat o
  mine = its.mine

  module _ (has : has_work o.errand ≡ true) (y : Slot L D) (there : seat.me.1 ≡ (0, y) ∷ rest seat.me.1) where
    abbrev w : (desk : Desk L) × (k : LogWork) × (desk.work ≡ Some k) × (seat.me.1 ≡ (0, slot.Log desk) ∷ [])
        × (seat.me.0.held ≡ Some (slot.Log desk))
    w = stepping.work_there mine has

    lies : LiesIn y w.1
    lies = record { desk = w.0; is = the_slot mine has y there; its = w.2 }

    pub goes_in : GoesOnIn y o
    goes_in = record {
      work = w.1;
      lies = lies;
      goes_on = (mine.may w.1 (has_w mine has)).goes_on;
    }

    pub ask_seat : IsOwnSeat table (seat_with seat ((0, y) ∷ rest seat.me.1)) o
    ask_seat = subst (λ (l : List (ℕ × Slot L D)). IsOwnSeat table (seat_with seat l) o) there its

    pub ask_is : (a : Op) → ((k : LogWork) → LiesIn y k → a ≡ own_next o k) → OwnAsks seat.me.0 o a
    ask_is a is k h = ap (own_next o) (only_work mine has k h) ∙ sym (is w.1 lies)

  -- what an Op leaves of it
  pub op_played : {log_seen : L → Seen} {data_seen : D → Seen} {after : Seat (Slot L D) (View L D)} {x : OwnUser}
      {step : Step} → OwnMine table after x
      → OwnHasPlayed log_seen data_seen seat.me.0 o step x × KeepsOwnSeat seat.me.0 after.me.0
      → OwnHasPlayedOp log_seen data_seen table seat o step after x
  op_played now then = record {
    seat = record { mine = now; home = λ d is. its.home d (sym then.1.data_part ∙ is) };
    same = then.1;
    played = then.0;
  }

  module _ (a : Op) (asks : OwnAsks seat.me.0 o a) where
    abbrev k : LogWork
    k = (stepping.some_work mine).0

    asked : own_next o k ≡ a
    asked = stepping.its_op mine a asks

    pub rests_now : a ≡ op.Rest → next (model.User o.user) ≡ op.Rest
    rests_now is = own_rests o k (stepping.go mine).in_hand (asked ∙ is)

    pub rests_fit : a ≡ op.Rest → AnswerFits (model.User o.user) answer.Rested
    rests_fit is = (stepping.go mine).rest (asked ∙ is)

    -- what neither a user nor the log's work asks for
    abbrev NoOp : Op → Type 0
    NoOp (op.TakeRemove p) = Unit {0}
    NoOp (op.TakeOldest i) = Unit {0}
    NoOp (op.Checkpoint x) = Unit {0}
    NoOp (op.ReadBlock b) = Unit {0}
    NoOp op.WriteBatch = Unit {0}
    NoOp (op.Append x) = Unit {0}
    NoOp _ = ⊥

    pub no_such : (b : Op) → NoOp b → a ≡ b → ⊥
    no_such (op.TakeRemove p) none is = never o k (stepping.go mine).in_hand (op.TakeRemove p) (asked ∙ is)
        (λ z. z) (λ z. z) (λ z. z) (λ e. absurd (cc)) (λ e. absurd (cc)) (λ e. absurd (cc))
    no_such (op.TakeOldest i) none is = never o k (stepping.go mine).in_hand (op.TakeOldest i) (asked ∙ is)
        (λ z. z) (λ z. z) (λ z. z) (λ e. absurd (cc)) (λ e. absurd (cc)) (λ e. absurd (cc))
    no_such (op.Checkpoint x) none is = never o k (stepping.go mine).in_hand (op.Checkpoint x) (asked ∙ is)
        (λ z. z) (λ z. z) (λ z. z) (λ e. absurd (cc)) (λ e. absurd (cc)) (λ e. absurd (cc))
    no_such (op.ReadBlock b) none is = never o k (stepping.go mine).in_hand (op.ReadBlock b) (asked ∙ is)
        (λ z. z) (λ z. z) (λ z. z) (λ e. absurd (cc)) (λ e. absurd (cc)) (λ e. absurd (cc))
    no_such op.WriteBatch none is = never o k (stepping.go mine).in_hand op.WriteBatch (asked ∙ is)
        (λ z. z) (λ z. z) (λ z. z) (λ e. absurd (cc)) (λ e. absurd (cc)) (λ e. absurd (cc))
    no_such (op.Append x) none is = never o k (stepping.go mine).in_hand (op.Append x) (asked ∙ is)
        (λ z. z) (λ z. z) (λ z. z) (λ e. absurd (cc)) (λ e. absurd (cc)) (λ e. absurd (cc))
    no_such _ none is = absurd none
