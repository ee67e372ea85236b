use Rattle.model_report.proofs.Groups.{first-front}
use Rattle.model_report.proofs.laws.first_groups_are_front.Goals as goal

pub returns : goal.returns
returns c = first-front
