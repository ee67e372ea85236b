use Rattle.model_report.proofs.Growing.{state_by-says, state_by-allows}
use Rattle.model_report.proofs.laws.answered_state_is_legal.Goals as goal

pub returns-clause-marks : goal.returns-clause-marks
returns-clause-marks c = state_by-says

pub returns-clause-mode : goal.returns-clause-mode
returns-clause-mode c = state_by-allows
