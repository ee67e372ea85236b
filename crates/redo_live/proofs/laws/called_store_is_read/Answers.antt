use Rattle.redo_live.proofs.Crashed as crashed
use Rattle.redo_live.proofs.laws.called_store_is_read.Goals as goal

pub returns : goal.returns
returns g c store users left leaves =
    crashed.is_read_after_crash g.L.Sectors.seen g.L.Sectors.gives g.D.Sectors.seen g.D.Sectors.gives store users left
    leaves c.held_run_reads.ensures.read
