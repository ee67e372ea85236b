use Rattle.redo_disk.proofs.Calls.{MayEndWith-ends, changing_calls-reads, failed_calls-may_end}
use Rattle.redo_disk.proofs.laws.calls_end_once.Goals as goal

pub returns-clause-failed : goal.returns-clause-failed
returns-clause-failed c = failed_calls-may_end

pub returns-clause-may_end : goal.returns-clause-may_end
returns-clause-may_end c = MayEndWith-ends

pub returns-clause-reads : goal.returns-clause-reads
returns-clause-reads c = changing_calls-reads
