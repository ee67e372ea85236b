use Rattle.model_page.proofs.Kept.{same_kept, kept-not_lost}
use Rattle.model_page.proofs.laws.kept_is_one.Goals as goal

pub returns-clause-one : goal.returns-clause-one
returns-clause-one c = same_kept

pub returns-clause-not_lost : goal.returns-clause-not_lost
returns-clause-not_lost c = kept-not_lost
