-- The groups that an actor has reserved, and the history after its step.
use Rattle.std.specs.Prelude.{List, [], cond, ℕ, ◌++◌, ◌∷◌}
use Rattle.model_core.specs.States.{Actor, UserState, Entry}
use Rattle.model_core.specs.UserProgram.{line}
use Rattle.model_core.specs.declared.steps.UserStep.{UserStep}
use Rattle.model_core.specs.declared.steps.UserStep.TheVariants as user_step
use Rattle.model_core.specs.States as actor
use Rattle.model_core.specs.Program.{entry, entries_from}

abbrev pub entries : Actor → List Entry
entries (actor.User u) = entries_from u.user u.lines 0 u.starts
entries _ = []

-- the history after a step: a reservation adds a group
abbrev pub phase_log : List Entry → ℕ → UserState → UserStep → List Entry
phase_log log sn u user_step.Reserve = log ++ entry u.user u.k sn (line u) ∷ []
phase_log log sn u _ = log

abbrev pub log_left : List Entry → ℕ → Actor → List Entry
log_left log sn (actor.User u) = cond u.checks log (phase_log log sn u u.step)
log_left log sn _ = log
