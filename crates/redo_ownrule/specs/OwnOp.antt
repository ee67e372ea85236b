-- An Op of a user that writes for itself, in its seat: when it may be played, and what it leaves.
use Rattle.atomic_table.specs.Seated.{TableId}
use Rattle.atomic_table.specs.declared.shared.Seat.{Seat}
use Rattle.model_core.specs.declared.ops.Op.{Op}
use Rattle.model_core.specs.declared.ops.Step.{Step}
use Rattle.model_own.specs.{OwnUser}
use Rattle.redo_disk.specs.{Seen}
use Rattle.redo_ownrule.specs.OwnMine.{IsOwnSeat, KeepsOwnSeat, OwnHasPlayed}
use Rattle.redo_ownrule.specs.Playing.{OwnAsks}
use Rattle.redo_rule.specs.declared.law.Slot.{Slot}
use Rattle.redo_rule.specs.declared.law.View.{View}

-- the user asks for the Op in its seat at this table
pub record OwnMayPlay {L D : Type 0} (table : TableId) (place : Seat (Slot L D) (View L D)) (o : OwnUser)
    (a : Op) : Type 0 where
  pub seat : IsOwnSeat table place o
  pub asks : OwnAsks place.me.0 o a

-- THE OP IS PLAYED: it is the seat of the user still, which has had a turn in it, and whose step ended so.
pub record OwnHasPlayedOp {L D : Type 0} (log_seen : L → Seen) (data_seen : D → Seen) (table : TableId)
    (before : Seat (Slot L D) (View L D)) (o : OwnUser) (step : Step) (after : Seat (Slot L D) (View L D)) (x : OwnUser)
    : Type 0 where
  pub seat : IsOwnSeat table after x
  pub same : KeepsOwnSeat before.me.0 after.me.0
  pub played : OwnHasPlayed log_seen data_seen before.me.0 o step x
