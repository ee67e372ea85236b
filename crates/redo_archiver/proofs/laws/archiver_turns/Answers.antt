use Rattle.redo_archiver.proofs.Turning.{pace-turns}
use Rattle.redo_archiver.proofs.laws.archiver_turns.Goals as goal

pub returns : goal.returns
returns g c limit flushed r part filling answer none heard pace =
    pace-turns g.A.Sectors.seen limit flushed part r filling answer none heard pace
