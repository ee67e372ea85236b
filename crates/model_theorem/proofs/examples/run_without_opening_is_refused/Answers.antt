use Rattle.model_theorem.proofs.Refused.{refuses-run}
use Rattle.model_theorem.proofs.examples.run_without_opening_is_refused.Goals as goal

pub returns : goal.returns
returns c = refuses-run
