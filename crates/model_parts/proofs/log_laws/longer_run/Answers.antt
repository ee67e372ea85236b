use Rattle.model_parts.proofs.Longer.{longer-holds, longer-live}
use Rattle.model_parts.proofs.log_laws.longer_run.Goals as goal

pub returns-clause-holds : goal.returns-clause-holds
returns-clause-holds c = longer-holds

pub returns-clause-live : goal.returns-clause-live
returns-clause-live c = longer-live
