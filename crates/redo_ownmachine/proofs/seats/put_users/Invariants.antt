-- Those that are there and those that are still to come, in the order in which they come.
use Rattle.std.proofs.Common.{length, reverse, vec_capacity, ◌++◌, ◌+◌, ◌≡◌, ◌≤◌}
use Rattle.redo_ownmachine.proofs.seats.put_users.Given as goal
use Rattle.redo_ownmachine.specs.OwnCrew.{users_alone}

abbrev pub invariant-loop-user : goal.invariant-loop-user
invariant-loop-user g l = record {
  all : l.room.items ++ reverse (users_alone l.users.items) ≡ l.initial.room.items ++ reverse (users_alone l.initial.users.items);
  enough : length l.room.items + length l.users.items ≤ vec_capacity l.room;
  capacity : vec_capacity l.room ≡ vec_capacity l.initial.room;
}

abbrev pub decreases-loop-user : goal.decreases-loop-user
decreases-loop-user g l = goal.left-loop-user g l
