-- The actors of a live run, into which lines are handed while it goes on, as it begins; and those before the readers.
use Rattle.std.specs.Prelude.{Bool, List, [], false, map, suc, zero, ℕ, ◌++◌, ◌∷◌}
use Rattle.model_base.specs.declared.shape.Shape.{Shape}
use Rattle.model_core.specs.{Actor, new_user, UserState}
use Rattle.model_core.specs.States as actor
use Rattle.model_log.specs.{run_layout}
use Rattle.redo_drive.specs.Setups.{with_others, other_actors, users_of}
use Rattle.redo_drive.specs.declared.plan.Plan.{Plan}
use Rattle.model_script.specs.declared.script.ScriptLine.{ScriptLine}

-- so many users, numbered from 1, of which none has a line
abbrev pub idle_users : (blocks : ℕ) → (users : ℕ) → List UserState
idle_users blocks zero = []
idle_users blocks (suc n) = idle_users blocks n ++ new_user (suc n) blocks [] ∷ []

-- the actors of a live run in their seats, with nothing done
abbrev pub live_actors : Shape → (users start : ℕ) → Plan → List Actor
live_actors shape users start plan =
    with_others (map actor.User (idle_users (run_layout shape).blocks users)) shape start plan

-- the plan of a live run: nobody reads its log
abbrev pub live_plan : (log_only : Bool) → Plan
live_plan log_only = record { log_only = log_only; archive = false; followers = 0 }

-- the actors of the run that have their seats before the readers of the log
abbrev pub seated_before : Shape → List ScriptLine → (start : ℕ) → Plan → List Actor
seated_before shape script start plan =
    map actor.User (users_of shape plan.log_only script) ++ other_actors shape start plan
