use Rattle.redo_lab.proofs.Stopped.{refuses-late}
use Rattle.redo_lab.proofs.examples.late_arming_is_refused.Goals as goal

pub returns : goal.returns
returns c = refuses-late c.one_reading.ensures
