-- The law is a lemma.
use Rattle.model_parts.proofs.Enlarging.{enlarged-stored}
use Rattle.model_parts.proofs.opening_laws.enlarged_is_stored.Goals as goal

pub returns : goal.returns
returns c = enlarged-stored
