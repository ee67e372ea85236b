-- The law is a lemma.
use Rattle.model_parts.proofs.Heading.{headed-fresh}
use Rattle.model_parts.proofs.opening_laws.headed_is_fresh.Goals as goal

pub returns : goal.returns
returns c = headed-fresh
