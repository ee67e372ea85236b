-- The law is a lemma.
use Rattle.model_parts.proofs.Enlarging.{enlarging-keeps}
use Rattle.model_parts.proofs.opening_laws.enlarging_keeps.Goals as goal

pub returns : goal.returns
returns c = enlarging-keeps
