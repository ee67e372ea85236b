use Rattle.redo_drive.proofs.LogPartEnds.{log_tells}
use Rattle.redo_drive.proofs.log_laws.log_part_tells.Goals as goal
use Rattle.redo_drive.specs.LogPartSide.{HasBegun}

pub returns : goal.returns
returns g c = λ faults start first part setup shape disk. log_tells g.L.Sectors.seen faults first.marks.number (HasBegun g.L.Sectors.seen start first) setup shape part disk
