use Rattle.model_theorem.proofs.Admitted.{admits-lost}
use Rattle.model_theorem.proofs.examples.lost_group_is_admitted.Goals as goal

pub returns : goal.returns
returns c = admits-lost
