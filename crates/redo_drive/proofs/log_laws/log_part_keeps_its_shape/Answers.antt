use Rattle.redo_drive.proofs.ShapeStays.{served_shape}
use Rattle.redo_drive.proofs.log_laws.log_part_keeps_its_shape.Goals as goal
use Rattle.redo_drive.specs.LogPartSide.{HasBegun}

pub returns : goal.returns
returns g c = λ faults start first old new given asked code served. served_shape g.L.Sectors.seen faults first.marks.number (HasBegun g.L.Sectors.seen start first) old new code given asked served
