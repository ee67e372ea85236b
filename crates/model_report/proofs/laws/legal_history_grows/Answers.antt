use Rattle.model_report.proofs.Growing.{legal-more}
use Rattle.model_report.proofs.laws.legal_history_grows.Goals as goal

pub returns : goal.returns
returns c = legal-more
