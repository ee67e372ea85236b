-- The users below this number that have lines are seated.
use Rattle.std.proofs.Common.{map, ◌≡◌}
use Rattle.model_core.specs.States as actor
use Rattle.redo_drive.specs.Setups.{programs_of, users_below}
use Rattle.redo_drive.specs.History.{views_of}
use Rattle.redo_drive.proofs.users.seat_users.Given as goal
use Rattle.model_log.specs.{run_layout}

abbrev pub invariant-loop-user : goal.invariant-loop-user
invariant-loop-user g l = views_of l.actors.items ≡ map actor.User
    (users_below (run_layout l.shape).blocks (programs_of l.shape l.plan.log_only l.script) l.user)
