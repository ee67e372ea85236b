use Rattle.model_theorem.proofs.Refused.{refuses-start}
use Rattle.model_theorem.proofs.examples.other_start_is_refused.Goals as goal

pub returns : goal.returns
returns c = refuses-start
