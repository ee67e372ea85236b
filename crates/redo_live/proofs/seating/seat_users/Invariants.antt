-- The users so far have their seats, and the other players theirs behind them.
use Rattle.std.proofs.Common.{length, ◌+◌, ◌-◌, ◌≡◌, ◌≤◌}
use Rattle.std.specs.Prelude.{vec_capacity}
use Rattle.redo_live.proofs.seating.seat_users.Given as goal
use Rattle.redo_live.specs.Seating.{AreSeatedFrom, AreSeatedUsers, Plan}

abbrev pub invariant-loop-seats : goal.invariant-loop-seats
invariant-loop-seats g l = record {
  same : length l.seats.items ≡ length l.players.items;
  few : length l.users.items ≤ l.count;
  left : length l.users.items + length l.players.items ≡ length l.initial.players.items;
  room : vec_capacity l.users ≡ vec_capacity l.initial.users;
  seated : (plan : Plan) → AreSeatedFrom plan 0 l.initial.seats.items l.initial.players.items
      → AreSeatedUsers plan l.users.items
      × AreSeatedFrom plan (length l.users.items) l.seats.items l.players.items;
}

abbrev pub decreases-loop-seats : goal.decreases-loop-seats
decreases-loop-seats g l = l.count - length l.users.items
