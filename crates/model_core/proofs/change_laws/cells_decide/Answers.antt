use Rattle.model_core.proofs.Bytewise.{decided}
use Rattle.model_core.proofs.change_laws.cells_decide.Goals as goal

pub returns : goal.returns
returns c = decided
