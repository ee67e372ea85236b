use Rattle.model_parts.proofs.DataCrashes.{crash-keeps}
use Rattle.model_parts.proofs.data_laws.crash_keeps.Goals as goal

pub returns : goal.returns
returns c = crash-keeps
