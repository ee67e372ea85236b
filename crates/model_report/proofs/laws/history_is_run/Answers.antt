use Rattle.model_report.proofs.Groups.{run-from}
use Rattle.model_report.proofs.laws.history_is_run.Goals as goal

pub returns : goal.returns
returns c = run-from
