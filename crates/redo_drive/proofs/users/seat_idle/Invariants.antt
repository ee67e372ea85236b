-- So many idle users are seated.
use Rattle.std.proofs.Common.{map, ◌≡◌}
use Rattle.model_core.specs.States as actor
use Rattle.redo_drive.specs.LiveActors.{idle_users}
use Rattle.redo_drive.specs.History.{views_of}
use Rattle.redo_drive.proofs.users.seat_idle.Given as goal
use Rattle.model_log.specs.{run_layout}

abbrev pub invariant-loop-before : goal.invariant-loop-before
invariant-loop-before g l = views_of l.actors.items ≡ map actor.User (idle_users (run_layout l.shape).blocks l.before)
