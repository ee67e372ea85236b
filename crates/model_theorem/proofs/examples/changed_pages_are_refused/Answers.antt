use Rattle.model_theorem.proofs.Refused.{refuses-change}
use Rattle.model_theorem.proofs.examples.changed_pages_are_refused.Goals as goal

pub returns : goal.returns
returns c = refuses-change
