-- The law is a lemma.
use Rattle.model_parts.proofs.Keeping.{migrating-keeps}
use Rattle.model_parts.proofs.opening_laws.migrating_keeps.Goals as goal

pub returns : goal.returns
returns c = migrating-keeps
