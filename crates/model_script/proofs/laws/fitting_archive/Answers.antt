use Rattle.model_script.proofs.Unfit.{archive_fits}
use Rattle.model_script.proofs.laws.fitting_archive.Goals as goal

pub returns : goal.returns
returns c = archive_fits
