use Rattle.model_logcore.proofs.Watermarks.{log_watermarks}
use Rattle.redo_drive.proofs.log_laws.log_half_has_watermarks.Goals as goal
use Rattle.redo_drive.specs.LogPartSide.{HasBegun, log_side}

pub returns : goal.returns
returns g c = λ faults start first setup words ghosts part actors half. log_watermarks (log_side g.L.Sectors.seen faults first.marks.number (HasBegun g.L.Sectors.seen start first)) setup words ghosts part actors half
