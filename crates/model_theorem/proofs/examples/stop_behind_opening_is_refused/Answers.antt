use Rattle.model_theorem.proofs.Refused.{refuses-stopped}
use Rattle.model_theorem.proofs.examples.stop_behind_opening_is_refused.Goals as goal

pub returns : goal.returns
returns c = refuses-stopped
