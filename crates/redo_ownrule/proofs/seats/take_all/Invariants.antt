-- The seats that are left are still apart, and the first one has the others, and what they kept.
use Rattle.std.proofs.Common.{length, map, ℕ, ◌≡◌, ◌≤◌}
use lib.ListN.{get_elem?}
use mathlib.Core.Option.{some}
use Rattle.model_core.specs.States as model
use Rattle.redo_drive.specs.{views_of}
use Rattle.redo_ownrule.specs.Gathering.{AreHandedOut}
use Rattle.redo_ownrule.specs.Players.{actor_of}
use Rattle.redo_rule.specs.Seating.{HasPart, IsCleaner}
use Rattle.redo_rule.specs.Sharing.{heard_by}
use Rattle.redo_ownrule.proofs.seats.take_all.Given as goal

abbrev pub invariant-loop-seat : goal.invariant-loop-seat
invariant-loop-seat g l = record {
  apart : (number : ℕ → ℕ)
      → AreHandedOut l.table.table_id number (heard_by l.initial.seats.items) l.players l.initial.first
      l.initial.seats.items
      → AreHandedOut l.table.table_id number (heard_by l.initial.seats.items) l.players l.first l.seats.items;
  part : HasPart l.initial.first.me.0 → HasPart l.first.me.0;
  cleaner : (i : ℕ) (a : model.Actor) → length l.seats.items ≤ i
      → get_elem? (views_of (map actor_of l.players)) i ≡ some a → IsCleaner a → HasPart l.first.me.0;
}

abbrev pub decreases-loop-seat : goal.decreases-loop-seat
decreases-loop-seat g l = goal.left-loop-seat g l
