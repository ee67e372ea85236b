-- An Op of an actor in its seat: when it may be played, and what it leaves.
use Rattle.std.specs.Prelude.{List, ◌≡◌}
use Rattle.atomic_table.specs.Seated.{TableId}
use Rattle.atomic_table.specs.declared.shared.Seat.{Seat}
use Rattle.model_core.specs.{Given, next}
use Rattle.model_core.specs.States as model
use Rattle.model_core.specs.declared.ops.Op.{Op}
use Rattle.model_core.specs.declared.ops.Step.{Step}
use Rattle.redo_disk.specs.{Seen}
use Rattle.redo_drive.specs.{view_of}
use Rattle.redo_drive.specs.declared.actor.Actor.{Actor}
use Rattle.redo_rule.specs.Mine.{HasPlayed, IsSameSeat}
use Rattle.redo_rule.specs.Seating.{IsSeatOf}
use Rattle.redo_rule.specs.declared.law.Slot.{Slot}
use Rattle.redo_rule.specs.declared.law.View.{View}

-- the actor asks for the Op in its seat at this table
pub record MayPlay {L D : Type 0} (table : TableId) (place : Seat (Slot L D) (View L D)) (a : model.Actor)
    (o : Op) : Type 0 where
  pub seat : IsSeatOf table place a
  pub asks : next a ≡ o

-- THE OP IS PLAYED: it is the seat of the actor still, which has had a turn in it, and whose step ended so.
pub record HasPlayedOp {L D R : Type 0} (log_seen : L → Seen) (data_seen : D → Seen) (stands : R → List Given → Type 0)
    (table : TableId) (before : Seat (Slot L D) (View L D)) (a : Actor R) (step : Step)
    (after : Seat (Slot L D) (View L D)) (b : Actor R) : Type 0 where
  pub id : after.id ≡ before.id
  pub seat : IsSeatOf table after (view_of b)
  pub same : IsSameSeat stands before.me.0 a after.me.0 b
  pub played : HasPlayed log_seen data_seen before.me.0 (view_of a) step (view_of b)
