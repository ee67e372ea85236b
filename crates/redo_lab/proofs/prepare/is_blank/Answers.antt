use Rattle.redo_lab.proofs.FirstRead.{is-text}
use Rattle.redo_lab.proofs.prepare.is_blank.Goals as goal

pub returns : goal.returns
returns c = is-text _ _ _ _ c.as_slice.ensures c.eq.ensures
