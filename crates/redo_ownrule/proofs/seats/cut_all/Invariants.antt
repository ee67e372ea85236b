-- The players so far have their seats.
use Rattle.std.proofs.Common.{Bool, length, map, ◌-◌, ◌≡◌, ◌≤◌}
use Rattle.std.specs.Prelude.{vec_capacity}
use Rattle.redo_drive.specs.{views_of}
use Rattle.redo_ownrule.specs.Gathering.{AreHandedOut}
use Rattle.redo_ownrule.specs.Players.{actor_of, place}
use Rattle.redo_rule.proofs.Gathered.{KnowTable}
use Rattle.redo_rule.specs.Gathering.{PartIsKept}
use Rattle.redo_rule.specs.Ruled.{none_heard}
use Rattle.redo_rule.specs.Sharing.{AreLaidOut}
use Rattle.redo_ownrule.proofs.seats.cut_all.Given as goal

abbrev pub invariant-loop-first : goal.invariant-loop-first
invariant-loop-first g l = record {
  apart : (own : Bool)
      → AreHandedOut l.table.table_id (place own l.players) none_heard l.players l.initial.first l.initial.seats.items
      → AreHandedOut l.table.table_id (place own l.players) none_heard l.players l.first l.seats.items;
  part : PartIsKept (length l.seats.items) (views_of (map actor_of l.players)) l.first;
  room : length l.players ≤ vec_capacity l.seats;
  few : length l.seats.items ≤ length l.players;
  same : l.first.me.0.about ≡ l.initial.first.me.0.about;
  told : KnowTable l.initial.first.me.0.about l.seats.items;
  layout : l.first.me.0.layout ≡ l.initial.first.me.0.layout;
  laid : AreLaidOut l.initial.first.me.0.layout l.seats.items;
}

abbrev pub decreases-loop-first : goal.decreases-loop-first
decreases-loop-first g l = length l.players - length l.seats.items
