-- The law is a lemma.
use Rattle.model_parts.proofs.Keeping.{clearing-keeps}
use Rattle.model_parts.proofs.opening_laws.clearing_keeps.Goals as goal

pub returns : goal.returns
returns c = clearing-keeps
