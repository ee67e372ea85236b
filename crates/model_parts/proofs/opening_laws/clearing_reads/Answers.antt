-- The law is a lemma.
use Rattle.model_parts.proofs.Reread.{clearing-reads}
use Rattle.model_parts.proofs.opening_laws.clearing_reads.Goals as goal

pub returns : goal.returns
returns c = clearing-reads
