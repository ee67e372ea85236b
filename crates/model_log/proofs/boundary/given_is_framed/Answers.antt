use Rattle.model_log.proofs.CutStream.{given-framed}
use Rattle.model_log.proofs.boundary.given_is_framed.Goals as goal

pub returns : goal.returns
returns c = given-framed
