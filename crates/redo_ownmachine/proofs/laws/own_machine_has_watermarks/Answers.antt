use Rattle.model_running.proofs.Watermarks.{has_watermarks}
use Rattle.redo_drive.specs.{run_data_side, run_log_side, core_of}
use Rattle.redo_ownmachine.proofs.Serves.{its_data_laws, its_log_laws}
use Rattle.redo_ownmachine.proofs.laws.own_machine_has_watermarks.Goals as goal
use Rattle.redo_ownmachine.specs.OwnSeats.{actors_of}

pub returns : goal.returns
returns g c = λ run archive parts seats R. has_watermarks (run_log_side g.L.Sectors.seen g.D.Sectors.seen run)
    (its_log_laws g.L.Sectors.seen g.D.Sectors.seen run) (run_data_side g.L.Sectors.seen g.D.Sectors.seen run)
    (its_data_laws g.L.Sectors.seen g.D.Sectors.seen run) run.setup
    (core_of g.L.Sectors.seen g.D.Sectors.seen run parts (actors_of seats)) R.runs.running
