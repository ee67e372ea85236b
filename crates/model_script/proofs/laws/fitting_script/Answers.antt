use Rattle.model_script.proofs.Fitting.{script_fits}
use Rattle.model_script.proofs.laws.fitting_script.Goals as goal

pub returns : goal.returns
returns c = script_fits
