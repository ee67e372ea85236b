-- The law is a lemma.
use Rattle.model_parts.proofs.Keeping.{marking-keeps}
use Rattle.model_parts.proofs.opening_laws.marking_keeps.Goals as goal

pub returns : goal.returns
returns c = marking-keeps
