use Rattle.model_log.proofs.HeadRound.{head-reads_back}
use Rattle.model_log.proofs.laws.head_reads_back.Goals as goal

pub returns : goal.returns
returns c = head-reads_back
