use Rattle.redo_disk.proofs.Calls.{AreReads-append, EndWith-append, MayEndWith-append, Serve-append, changing_calls-append, failed_calls-append}
use Rattle.redo_disk.proofs.Made.{Makes-append}
use Rattle.redo_disk.proofs.laws.calls_join.Goals as goal

pub returns-clause-makes : goal.returns-clause-makes
returns-clause-makes g c = Makes-append g.D.Sectors.gives

pub returns-clause-failed : goal.returns-clause-failed
returns-clause-failed g c = failed_calls-append

pub returns-clause-changing : goal.returns-clause-changing
returns-clause-changing g c = changing_calls-append

pub returns-clause-reads : goal.returns-clause-reads
returns-clause-reads g c = AreReads-append

pub returns-clause-ends : goal.returns-clause-ends
returns-clause-ends g c = EndWith-append

pub returns-clause-may_end : goal.returns-clause-may_end
returns-clause-may_end g c = MayEndWith-append

pub returns-clause-serves : goal.returns-clause-serves
returns-clause-serves g c = Serve-append
