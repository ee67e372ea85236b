-- The law is a lemma.
use Rattle.model_parts.proofs.Keeping.{kept-head_keeps}
use Rattle.model_parts.proofs.opening_laws.kept_head_keeps.Goals as goal

pub returns : goal.returns
returns c = kept-head_keeps
