use Rattle.redo_threads.specs.Working.{KeepOn}
use Rattle.redo_threads.proofs.crew.round.Given as goal

abbrev pub invariant-loop-k : goal.invariant-loop-k
invariant-loop-k g l = KeepOn g.F.Receiver.stands_for l.table.table_id l.fn.crew l.crew
