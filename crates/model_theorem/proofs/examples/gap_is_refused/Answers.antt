use Rattle.model_theorem.proofs.Refused.{refuses-gap}
use Rattle.model_theorem.proofs.examples.gap_is_refused.Goals as goal

pub returns : goal.returns
returns c = refuses-gap
