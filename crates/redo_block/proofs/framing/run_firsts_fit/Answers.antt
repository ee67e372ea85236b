use Rattle.redo_block.proofs.RunFirsts.{run-firsts_fit}
use Rattle.redo_block.proofs.framing.run_firsts_fit.Goals as goal

pub returns : goal.returns
returns c = run-firsts_fit
