-- Nothing was read so far, and the user is as it was.
use Rattle.std.proofs.Common.{◌≡◌}
use Rattle.redo_live.proofs.user.User.read_page.Given as goal
use Rattle.redo_rule.specs.Reading.{HasReadNone}

abbrev pub invariant-loop : goal.invariant-loop
invariant-loop g l = record {
  plays : l.self.player ≡ l.fn.self.player;
  used : l.self.used ≡ l.fn.self.used;
  none : HasReadNone l.fn.self.seat l.self.seat;
}
