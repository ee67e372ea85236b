use Rattle.redo_drive.proofs.DataPartEnds.{data_tells}
use Rattle.redo_drive.proofs.data_laws.data_part_tells.Goals as goal
use Rattle.redo_drive.specs.DataPartSide.{HasBegun}

pub returns : goal.returns
returns g c = λ faults shape first part setup opened disk begun same pages. data_tells g.D.Sectors.seen faults shape (HasBegun g.D.Sectors.seen setup.opened first) setup opened part disk pages same begun
