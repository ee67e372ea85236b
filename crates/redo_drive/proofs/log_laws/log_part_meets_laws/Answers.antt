use Rattle.redo_drive.proofs.LogPartLaws.{log_laws}
use Rattle.redo_drive.proofs.log_laws.log_part_meets_laws.Goals as goal
use Rattle.redo_drive.specs.LogPartSide.{HasBegun}

pub returns : goal.returns
returns g c = λ faults start first. log_laws g.L.Sectors.seen faults first.marks.number (HasBegun g.L.Sectors.seen start first)
