-- The law is a lemma.
use Rattle.model_parts.proofs.Pages.{repairing-image}
use Rattle.model_parts.proofs.opening_laws.repairing_rewrites.Goals as goal

pub returns : goal.returns
returns c = repairing-image
