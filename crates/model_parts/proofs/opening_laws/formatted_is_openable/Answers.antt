-- The law is a lemma.
use Rattle.model_parts.proofs.Formatted.{formatted-openable}
use Rattle.model_parts.proofs.opening_laws.formatted_is_openable.Goals as goal

pub returns : goal.returns
returns c = formatted-openable
