use Rattle.model_report.proofs.Groups.{boundary-from}
use Rattle.model_report.proofs.laws.mark_is_boundary.Goals as goal

pub returns : goal.returns
returns c = boundary-from
