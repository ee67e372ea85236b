-- The law is a lemma.
use Rattle.model_parts.proofs.Again.{opened-again}
use Rattle.model_parts.proofs.opening_laws.opened_again.Goals as goal

pub returns : goal.returns
returns c = opened-again
