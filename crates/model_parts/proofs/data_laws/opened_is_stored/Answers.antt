use Rattle.model_parts.proofs.Parts.{opened-stored}
use Rattle.model_parts.proofs.data_laws.opened_is_stored.Goals as goal

pub returns : goal.returns
returns c = opened-stored
