-- The law is a lemma.
use Rattle.model_parts.proofs.Pages.{stored-image}
use Rattle.model_parts.proofs.opening_laws.stored_is_rewritten.Goals as goal

pub returns : goal.returns
returns c = stored-image
