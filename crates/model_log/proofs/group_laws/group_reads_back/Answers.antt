-- The lemma of this name.
use Rattle.model_log.proofs.ReadBack.{group-reads_back}
use Rattle.model_log.proofs.group_laws.group_reads_back.Goals as goal

pub returns : goal.returns
returns c = group-reads_back
