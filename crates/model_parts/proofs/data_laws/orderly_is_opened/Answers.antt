use Rattle.model_parts.proofs.Orderly.{orderly-opened}
use Rattle.model_parts.proofs.data_laws.orderly_is_opened.Goals as goal

pub returns : goal.returns
returns c = orderly-opened
