use Rattle.model_theorem.proofs.Refused.{refuses-lack}
use Rattle.model_theorem.proofs.examples.missing_flushed_group_is_refused.Goals as goal

pub returns : goal.returns
returns c = refuses-lack
