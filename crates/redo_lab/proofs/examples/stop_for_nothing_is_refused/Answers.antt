use Rattle.redo_lab.proofs.Stopped.{refuses-opening}
use Rattle.redo_lab.proofs.examples.stop_for_nothing_is_refused.Goals as goal

pub returns : goal.returns
returns c = refuses-opening
