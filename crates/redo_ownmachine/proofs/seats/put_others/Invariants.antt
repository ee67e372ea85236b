-- Those that are there and those that are still to come, in the order in which they come.
use Rattle.std.proofs.Common.{length, reverse, vec_capacity, ◌++◌, ◌+◌, ◌≡◌, ◌≤◌}
use Rattle.redo_ownmachine.proofs.seats.put_others.Given as goal

abbrev pub invariant-loop-other : goal.invariant-loop-other
invariant-loop-other g l = record {
  all : l.room.items ++ reverse l.others.items ≡ l.initial.room.items ++ reverse l.initial.others.items;
  enough : length l.room.items + length l.others.items ≤ vec_capacity l.room;
  capacity : vec_capacity l.room ≡ vec_capacity l.initial.room;
}

abbrev pub decreases-loop-other : goal.decreases-loop-other
decreases-loop-other g l = goal.left-loop-other g l
