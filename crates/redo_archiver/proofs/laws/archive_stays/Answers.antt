use Rattle.redo_archiver.proofs.Longer.{part-longer}
use Rattle.redo_archiver.proofs.laws.archive_stays.Goals as goal

pub returns-clause-archives : goal.returns-clause-archives
returns-clause-archives g c pages wholes more part run known =
    part-longer g.A.Sectors.seen pages wholes more part run known
