-- The law is a lemma.
use Rattle.model_parts.proofs.Pages.{writing-image}
use Rattle.model_parts.proofs.opening_laws.writing_rewrites.Goals as goal

pub returns : goal.returns
returns c = writing-image
