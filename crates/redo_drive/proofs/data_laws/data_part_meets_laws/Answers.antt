use Rattle.redo_drive.proofs.DataPartLaws.{data_laws}
use Rattle.redo_drive.proofs.data_laws.data_part_meets_laws.Goals as goal
use Rattle.redo_drive.specs.DataPartSide.{HasBegun}

pub returns : goal.returns
returns g c = λ faults shape opened first. data_laws g.D.Sectors.seen faults shape (HasBegun g.D.Sectors.seen opened first)
