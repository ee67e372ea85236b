use Rattle.model_page.proofs.BestCopy.{best-copy}
use Rattle.model_page.proofs.Kept.{same_best}
use Rattle.model_page.proofs.laws.best_copy_is_one.Goals as goal

pub returns-clause-some : goal.returns-clause-some
returns-clause-some c = best-copy

pub returns-clause-one : goal.returns-clause-one
returns-clause-one c = same_best
