-- Those so far are put back.
use Rattle.std.proofs.Common.{List, ◌++◌, ◌≡◌}
use Rattle.std.specs.Prelude.{vec_capacity}
use Rattle.atomic_table.specs.declared.shared.Seat.{Seat}
use Rattle.redo_follow.specs.declared.tally.Tally.{Tally}
use Rattle.redo_live.proofs.closing.put_workers.Given as goal
use Rattle.redo_live.specs.Closing.{worker_players, worker_seats}
use Rattle.redo_ownrule.specs.declared.player.Player.{Player}
use Rattle.redo_rule.specs.declared.law.Slot.{Slot}
use Rattle.redo_rule.specs.declared.law.View.{View}

abbrev pub invariant-loop-worker : goal.invariant-loop-worker
invariant-loop-worker g l = record {
  seats : ◌≡◌ {A = List (Seat (Slot g.row.L.Denot g.row.D.Denot) (View g.row.L.Denot g.row.D.Denot))} l.seats.items
      (l.initial.seats.items ++ worker_seats l.yielded);
  players : ◌≡◌ {A = List (Player Tally)} l.players.items (l.initial.players.items ++ worker_players l.yielded);
  seat_room : vec_capacity l.seats ≡ vec_capacity l.initial.seats;
  player_room : vec_capacity l.players ≡ vec_capacity l.initial.players;
}
