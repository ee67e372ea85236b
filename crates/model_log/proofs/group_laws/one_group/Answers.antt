-- The lemma of this name.
use Rattle.model_log.proofs.Several.{one_group}
use Rattle.model_log.proofs.group_laws.one_group.Goals as goal

pub returns : goal.returns
returns c = one_group
