-- The law is a lemma.
use Rattle.model_parts.proofs.Migration.{migrating-reads}
use Rattle.model_parts.proofs.opening_laws.migrating_reads.Goals as goal

pub returns : goal.returns
returns c = migrating-reads
