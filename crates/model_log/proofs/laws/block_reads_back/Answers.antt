use Rattle.model_log.proofs.BlockRound.{view-reads_back, data-reads_back}
use Rattle.model_log.proofs.laws.block_reads_back.Goals as goal

pub returns-clause-view : goal.returns-clause-view
returns-clause-view c = view-reads_back

pub returns-clause-content : goal.returns-clause-content
returns-clause-content c = data-reads_back
