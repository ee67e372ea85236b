-- The followers so far are new, and there is room for all.
use Rattle.std.proofs.Common.{length, vec_capacity, ◌+◌, ◌≡◌}
use Rattle.redo_drive.specs.declared.seating.TheConstants.{FIRST_FOLLOWER}
use Rattle.redo_lab.proofs.Tallied.{AreNew}
use Rattle.redo_lab.proofs.following.make_followers.Given as goal

abbrev pub invariant-loop-number : goal.invariant-loop-number
invariant-loop-number l = record {
  room : vec_capacity l.followers ≡ l.count;
  long : FIRST_FOLLOWER + length l.followers.items ≡ l.number;
  new : AreNew l.start l.followers.items;
}
