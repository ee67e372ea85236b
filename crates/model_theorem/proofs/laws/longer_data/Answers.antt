use Rattle.model_theorem.proofs.Later.{data-more}
use Rattle.model_theorem.proofs.laws.longer_data.Goals as goal

pub returns : goal.returns
returns c = data-more
