-- The law is a lemma.
use Rattle.model_parts.proofs.Heading.{heading-keeps}
use Rattle.model_parts.proofs.opening_laws.heading_keeps.Goals as goal

pub returns : goal.returns
returns c = heading-keeps
