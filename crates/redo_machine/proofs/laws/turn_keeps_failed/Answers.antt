use Rattle.model_running.proofs.FailedStays.{turn_keeps_failed}
use Rattle.redo_drive.specs.{run_data_side, run_log_side, core_of}
use Rattle.redo_machine.proofs.laws.turn_keeps_failed.Goals as goal

pub returns : goal.returns
returns g c = λ run archive old new actors after seat step R t failed.
    turn_keeps_failed (run_log_side g.L.Sectors.seen g.D.Sectors.seen run) (run_data_side g.L.Sectors.seen g.D.Sectors.seen run) run.setup
    (core_of g.L.Sectors.seen g.D.Sectors.seen run old actors) (core_of g.L.Sectors.seen g.D.Sectors.seen run new after) seat t.answer step R.running t.turn failed
