-- The law is a lemma.
use Rattle.model_parts.proofs.Migration.{migrated-fresh}
use Rattle.model_parts.proofs.opening_laws.migrated_is_fresh.Goals as goal

pub returns : goal.returns
returns c = migrated-fresh
