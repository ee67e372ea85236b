use Rattle.model_script.proofs.Unfit.{text_fits}
use Rattle.model_script.proofs.laws.fitting_text.Goals as goal

pub returns : goal.returns
returns c = text_fits
