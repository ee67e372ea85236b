-- The followers so far have their seats.
use Rattle.std.proofs.Common.{map, ◌++◌, ◌≡◌}
use Rattle.redo_drive.specs.declared.actor.Actor.TheVariants as own
use Rattle.redo_drive.proofs.seating.seat_followers.Given as goal

abbrev pub invariant-loop-follower : goal.invariant-loop-follower
invariant-loop-follower g l = l.actors.items ≡ l.initial.actors.items ++ map own.Follower l.yielded
