use Rattle.model_theorem.proofs.Refused.{refuses-loss}
use Rattle.model_theorem.proofs.examples.loss_for_nothing_is_refused.Goals as goal

pub returns : goal.returns
returns c = refuses-loss
