-- Each of the actors so far is a player by its own program.
use Rattle.std.proofs.Common.{List, ◌≡◌}
use Rattle.redo_ownrule.proofs.Players.{plain}
use Rattle.redo_ownrule.proofs.staffing.take_plain.Given as goal
use Rattle.redo_ownrule.specs.declared.player.Player.{Player}

abbrev pub invariant-loop-actor : goal.invariant-loop-actor
invariant-loop-actor g l = ◌≡◌ {A = List (Player g.row.R.Denot)} l.players.items (plain l.yielded)
