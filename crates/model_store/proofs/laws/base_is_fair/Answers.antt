use Rattle.model_store.proofs.Fairness.{base-fair}
use Rattle.model_store.proofs.laws.base_is_fair.Goals as goal

pub returns : goal.returns
returns c = base-fair
