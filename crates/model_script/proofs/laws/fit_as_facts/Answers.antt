use Rattle.model_script.proofs.Unfit.{archive-fits, end-fits, lines-fit, room-fits}
use Rattle.model_script.proofs.laws.fit_as_facts.Goals as goal

pub returns : goal.returns
returns c = record { lines = lines-fit; end = end-fits; room = room-fits; archive = archive-fits }
