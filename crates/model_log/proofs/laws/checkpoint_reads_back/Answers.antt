use Rattle.model_log.proofs.CheckpointRound.{checkpoint-reads_back}
use Rattle.model_log.proofs.laws.checkpoint_reads_back.Goals as goal

pub returns : goal.returns
returns c = checkpoint-reads_back
