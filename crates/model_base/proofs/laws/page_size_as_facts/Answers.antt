-- The lemma of each page size.
use Rattle.model_base.proofs.ShapeLimits.{page_size_facts}
use Rattle.model_base.proofs.laws.page_size_as_facts.Goals as goal

pub returns : goal.returns
returns c = page_size_facts
