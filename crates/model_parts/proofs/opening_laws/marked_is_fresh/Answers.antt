-- The law is a lemma.
use Rattle.model_parts.proofs.Fresh.{marked-fresh}
use Rattle.model_parts.proofs.opening_laws.marked_is_fresh.Goals as goal

pub returns : goal.returns
returns c = marked-fresh
