use Rattle.redo_lab.proofs.Stopped.{admits-failed, admits-quiet, admits-stopped}
use Rattle.redo_lab.proofs.examples.stops_are_admitted.Goals as goal

pub returns-clause-quiet : goal.returns-clause-quiet
returns-clause-quiet c = λ found log data_bytes in_use. admits-quiet found data_bytes in_use log

pub returns-clause-failed : goal.returns-clause-failed
returns-clause-failed c = λ found log writes reads data_bytes in_use. admits-failed found data_bytes in_use log writes reads

pub returns-clause-stopped : goal.returns-clause-stopped
returns-clause-stopped c = λ log data_bytes in_use. admits-stopped log data_bytes in_use
