-- One Op of a player in its seat.
use Rattle.std.specs.Prelude.{◌≡◌}
use Rattle.atomic_table.specs.Seated.{TableId}
use Rattle.atomic_table.specs.declared.shared.Seat.{Seat}
use Rattle.model_core.specs.{next}
use Rattle.model_core.specs.declared.ops.Op.{Op}
use Rattle.model_core.specs.declared.ops.Step.{Step}
use Rattle.model_own.specs.{LogWork, own_next, OwnUser}
use Rattle.redo_disk.specs.{Seen}
use Rattle.redo_drive.specs.{view_of}
use Rattle.redo_ownrule.specs.OwnMine.{IsOwnSeat, OwnHasGone}
use Rattle.redo_ownrule.specs.OwnPlays.{HasWork}
use Rattle.redo_ownrule.specs.declared.player.Player.{Player}
use Rattle.redo_ownrule.specs.declared.player.Player.TheVariants as player
use Rattle.redo_rule.specs.Mine.{HasGone}
use Rattle.redo_rule.specs.Seating.{IsSeatOf}
use Rattle.redo_rule.specs.declared.law.Slot.{Slot}
use Rattle.redo_rule.specs.declared.law.View.{View}

module _ {L D : Type 0} where
  -- a user's Op, with the log's work so far where that is in its hand
  abbrev pub OwnAsks : View L D → OwnUser → Op → Type 0
  OwnAsks v o op = (k : LogWork) → HasWork v.held o k → own_next o k ≡ op

module _ {L D R : Type 0} where
  -- IT IS THE PLAYER'S SEAT at this table
  abbrev pub IsPlayerSeat : TableId → Seat (Slot L D) (View L D) → Player R → Type 0
  IsPlayerSeat table seat (player.Plain a) = IsSeatOf table seat (view_of a)
  IsPlayerSeat table seat (player.Own o) = IsOwnSeat table seat o

  -- it asks for this Op
  abbrev pub PlayerAsks : View L D → Player R → Op → Type 0
  PlayerAsks v (player.Plain a) op = next (view_of a) ≡ op
  PlayerAsks v (player.Own o) op = OwnAsks v o op

  -- it has had a turn of the definition, or rests since it has ended; and its step ended so
  abbrev pub PlayerHasGone : (L → Seen) → (D → Seen) → View L D → Player R → Step → Player R → Type 0
  PlayerHasGone log_seen data_seen v (player.Plain a) step (player.Plain b) =
      HasGone log_seen data_seen v (view_of a) step (view_of b)
  PlayerHasGone log_seen data_seen v (player.Own o) step (player.Own x) = OwnHasGone log_seen data_seen v o step x
  PlayerHasGone log_seen data_seen v p step q = ⊥
