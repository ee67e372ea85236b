-- The players so far are in their places.
use Rattle.std.proofs.Common.{vec_capacity, ◌≡◌}
use Rattle.redo_ownrule.proofs.Placed.{Placed, placed}
use Rattle.redo_ownrule.proofs.leaving.give_actors.Given as goal

abbrev pub invariant-loop-player : goal.invariant-loop-player
invariant-loop-player g l = record {
  so : ◌≡◌ {A = Placed g.row.R.Denot} (record { actors = l.room.items; work = l.work })
      (placed (record { actors = l.initial.room.items; work = l.initial.work }) l.yielded);
  capacity : vec_capacity l.room ≡ vec_capacity l.initial.room;
}
