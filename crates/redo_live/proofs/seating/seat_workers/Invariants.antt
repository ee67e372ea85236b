-- The workers so far have their seats, and the other players theirs behind them.
use Rattle.std.proofs.Common.{length, ℕ, ◌+◌, ◌≡◌}
use Rattle.std.specs.Prelude.{vec_capacity}
use Rattle.redo_live.proofs.seating.seat_workers.Given as goal
use Rattle.redo_live.specs.Seating.{AreSeatedFrom, AreSeatedWorkers, Plan}

abbrev pub invariant-loop-seats : goal.invariant-loop-seats
invariant-loop-seats g l = record {
  same : length l.seats.items ≡ length l.players.items;
  left : length l.workers.items + length l.players.items ≡ length l.initial.players.items;
  room : vec_capacity l.workers ≡ vec_capacity l.initial.workers;
  seated : (plan : Plan) (first : ℕ) → AreSeatedFrom plan first l.initial.seats.items l.initial.players.items
      → AreSeatedWorkers plan first l.workers.items
      × AreSeatedFrom plan (first + length l.workers.items) l.seats.items l.players.items;
}

abbrev pub decreases-loop-seats : goal.decreases-loop-seats
decreases-loop-seats g l = length l.players.items
