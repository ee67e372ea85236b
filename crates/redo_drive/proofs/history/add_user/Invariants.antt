-- What is there, before the groups that are still to come, is what was there before all of the user's groups.
use Rattle.std.proofs.Common.{drop, length, vec_capacity, ◌++◌, ◌+◌, ◌≡◌, ◌≤◌}
use Rattle.redo_drive.specs.History.{listed_from}
use Rattle.redo_drive.proofs.history.add_user.Given as goal

abbrev pub invariant-loop-k : goal.invariant-loop-k
invariant-loop-k l = record {
  capacity : vec_capacity l.entries ≡ vec_capacity l.initial.entries;
  so_far : length l.initial.entries.items + length l.user.starts ≤ vec_capacity l.initial.entries
      → l.entries.items ++ listed_from l.marks l.user l.k (drop l.k l.user.starts) ≡ l.initial.entries.items ++ listed_from l.marks l.user 0 l.user.starts;
}
