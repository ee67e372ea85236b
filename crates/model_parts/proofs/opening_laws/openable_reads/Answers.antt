-- The law is a lemma.
use Rattle.model_parts.proofs.Keeping.{openable-keeps}
use Rattle.model_parts.proofs.opening_laws.openable_reads.Goals as goal

pub returns : goal.returns
returns c = openable-keeps
