use Rattle.model_theorem.proofs.Admitted.{admits-stopped}
use Rattle.model_theorem.proofs.examples.stopped_opening_is_admitted.Goals as goal

pub returns : goal.returns
returns c = admits-stopped
