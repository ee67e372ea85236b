-- The followers among the actors so far are told.
use Rattle.std.proofs.Common.{[], drop, length, vec_capacity, ◌≡◌, ◌≤◌}
use Rattle.redo_drive.specs.{followers_in}
use Rattle.redo_lab.proofs.Tallied.{AreToldUpto}
use Rattle.redo_lab.proofs.following.told_of.Given as goal

abbrev pub invariant-loop-actor : goal.invariant-loop-actor
invariant-loop-actor l = record {
  capacity : vec_capacity l.follows ≡ vec_capacity l.initial.follows;
  so_far : l.initial.follows.items ≡ [] → length (followers_in l.actors) ≤ vec_capacity l.initial.follows
      → AreToldUpto (followers_in l.actors) (followers_in (drop l.actor-index l.actors)) l.follows.items;
}
