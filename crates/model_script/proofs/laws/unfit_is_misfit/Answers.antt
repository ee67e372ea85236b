use Rattle.model_script.proofs.Unfit.{fitting-none}
use Rattle.model_script.proofs.laws.unfit_is_misfit.Goals as goal

pub returns : goal.returns
returns c = fitting-none
