-- The actors so far are sorted.
use Rattle.std.proofs.Common.{◌≡◌}
use Rattle.redo_ownmachine.proofs.Sorting.{Sorted, none_yet, sorted}
use Rattle.redo_ownmachine.proofs.seats.take_seats.Given as goal

abbrev pub invariant-loop-actor : goal.invariant-loop-actor
invariant-loop-actor g l = ◌≡◌ {A = Sorted g.row.R.Denot}
    (record { users = l.users.items; writer = l.writer; flusher = l.flusher; others = l.others.items })
    (sorted none_yet l.yielded)
