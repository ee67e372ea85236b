use Rattle.model_theorem.proofs.Later.{folded-prefix}
use Rattle.model_theorem.proofs.laws.whole_page_is_prefix.Goals as goal

pub returns : goal.returns
returns c = folded-prefix
