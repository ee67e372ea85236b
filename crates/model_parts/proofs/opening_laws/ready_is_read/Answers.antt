-- The law is a lemma.
use Rattle.model_parts.proofs.Keeping.{ready-keeps}
use Rattle.model_parts.proofs.opening_laws.ready_is_read.Goals as goal

pub returns : goal.returns
returns c = ready-keeps
