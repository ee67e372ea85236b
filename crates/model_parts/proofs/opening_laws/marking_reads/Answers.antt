-- The law is a lemma.
use Rattle.model_parts.proofs.Fresh.{marking-reads}
use Rattle.model_parts.proofs.opening_laws.marking_reads.Goals as goal

pub returns : goal.returns
returns c = marking-reads
