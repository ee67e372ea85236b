use Rattle.redo_drive.specs.{run_data_side, run_log_side}
use Rattle.redo_ownmachine.proofs.Failing.{own_turn_keeps_failed}
use Rattle.redo_ownmachine.proofs.laws.own_turn_keeps_failed.Goals as goal
use Rattle.redo_ownmachine.specs.OwnStore.{own_core_of}

pub returns : goal.returns
returns g c = λ run archive old new seats after seat step R t failed.
    own_turn_keeps_failed (run_log_side g.L.Sectors.seen g.D.Sectors.seen run)
    (run_data_side g.L.Sectors.seen g.D.Sectors.seen run) run.setup
    (own_core_of g.L.Sectors.seen g.D.Sectors.seen run old seats)
    (own_core_of g.L.Sectors.seen g.D.Sectors.seen run new after) seat t.answer step
    (record { running = R.runs.running; errands = R.errands }) failed t.turn
