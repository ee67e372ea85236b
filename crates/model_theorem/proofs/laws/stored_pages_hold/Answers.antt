use Rattle.model_theorem.proofs.Stored.{stored-holds}
use Rattle.model_theorem.proofs.laws.stored_pages_hold.Goals as goal

pub returns : goal.returns
returns c = stored-holds
