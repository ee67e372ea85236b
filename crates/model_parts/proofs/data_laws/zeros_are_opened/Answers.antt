use Rattle.model_parts.proofs.Zeros.{zeros-opened}
use Rattle.model_parts.proofs.data_laws.zeros_are_opened.Goals as goal

pub returns : goal.returns
returns c = zeros-opened
