-- What is there, before the groups of the actors that are still to come, is the groups of all.
use Rattle.std.proofs.Common.{[], drop, get_or, length, vec_capacity, ℕ, ◌++◌, ◌<◌, ◌≡◌, ◌≤◌}
use Rattle.redo_drive.specs.History.{all_listed, view_of, views_of}
use Rattle.redo_drive.specs.Reserved.{KeepsAll}
use Rattle.redo_drive.specs.declared.actor.Actor.{Actor}
use Rattle.redo_drive.proofs.history.history_of.Given as goal

abbrev pub invariant-loop-actor : goal.invariant-loop-actor
invariant-loop-actor g l = record {
  capacity : vec_capacity l.entries ≡ vec_capacity l.initial.entries;
  so_far : ((seat : ℕ) (actor : Actor g.row.R.Denot) → seat < length l.actors → KeepsAll (view_of (get_or l.actors seat actor)))
      → l.initial.entries.items ≡ [] → length (all_listed l.marks (views_of l.actors)) ≤ vec_capacity l.initial.entries
      → l.entries.items ++ all_listed l.marks (views_of (drop l.actor-index l.actors)) ≡ all_listed l.marks (views_of l.actors);
}
