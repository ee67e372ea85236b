use Rattle.model_theorem.proofs.Numbered.{held-number, held-opened}
use Rattle.model_theorem.proofs.laws.held_run_is_opened.Goals as goal

pub returns-clause-number : goal.returns-clause-number
returns-clause-number c = held-number

pub returns-clause-opened : goal.returns-clause-opened
returns-clause-opened c = held-opened
