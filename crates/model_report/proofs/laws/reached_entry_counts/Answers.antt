use Rattle.model_report.proofs.Groups.{reached}
use Rattle.model_report.proofs.laws.reached_entry_counts.Goals as goal

pub returns : goal.returns
returns c = reached
