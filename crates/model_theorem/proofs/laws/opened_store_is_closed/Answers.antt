use Rattle.model_theorem.proofs.Start.{start-given, start-live, start-unwritten, opened-closed}
use Rattle.model_theorem.proofs.laws.opened_store_is_closed.Goals as goal

pub returns-clause-given : goal.returns-clause-given
returns-clause-given c = start-given

pub returns-clause-live : goal.returns-clause-live
returns-clause-live c = start-live

pub returns-clause-unwritten : goal.returns-clause-unwritten
returns-clause-unwritten c = start-unwritten

pub returns-clause-closed : goal.returns-clause-closed
returns-clause-closed c = opened-closed
