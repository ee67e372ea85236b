use Rattle.model_theorem.proofs.Admitted.{admits-empty}
use Rattle.model_theorem.proofs.examples.empty_run_is_admitted.Goals as goal

pub returns : goal.returns
returns c = admits-empty
