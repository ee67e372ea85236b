use Rattle.model_log.proofs.BoundaryLengths.{length-boundary}
use Rattle.model_log.proofs.boundary.boundary_length.Goals as goal

pub returns : goal.returns
returns c = length-boundary
