use Rattle.model_core.specs.{lsn}
use Rattle.model_running.proofs.Watermarks.{has_watermarks}
use Rattle.redo_drive.proofs.DataPartLaws.{data_laws}
use Rattle.redo_drive.proofs.LogPartLaws.{log_laws}
use Rattle.redo_drive.specs.DataPartSide as data_part
use Rattle.redo_drive.specs.LogPartSide as log_part
use Rattle.redo_drive.specs.{run_data_side, run_log_side, core_of}
use Rattle.redo_machine.proofs.laws.running_machine_has_watermarks.Goals as goal

pub returns : goal.returns
returns g c = λ run archive parts actors R.
    has_watermarks (run_log_side g.L.Sectors.seen g.D.Sectors.seen run) (log_laws g.L.Sectors.seen (g.L.Sectors.seen run.first_log.dev).faults run.first_log.marks.number (log_part.HasBegun g.L.Sectors.seen (lsn run.setup.base) run.first_log))
    (run_data_side g.L.Sectors.seen g.D.Sectors.seen run) (data_laws g.D.Sectors.seen (g.D.Sectors.seen run.first_data.dev).faults run.shape (data_part.HasBegun g.D.Sectors.seen run.setup.opened run.first_data))
    run.setup (core_of g.L.Sectors.seen g.D.Sectors.seen run parts actors) R.running
