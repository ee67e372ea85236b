use Rattle.model_store.proofs.Folding.{read-not_ahead}
use Rattle.model_store.proofs.laws.read_not_ahead.Goals as goal

pub returns : goal.returns
returns c = read-not_ahead
