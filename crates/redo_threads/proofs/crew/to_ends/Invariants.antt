use Rattle.redo_threads.specs.Working.{KeepOn}
use Rattle.redo_threads.proofs.Ending.{EndBelow}
use Rattle.redo_threads.proofs.crew.to_ends.Given as goal

abbrev pub invariant-loop-number : goal.invariant-loop-number
invariant-loop-number g l = record {
  goes_on : KeepOn g.F.Receiver.stands_for l.table.table_id l.fn.crew l.crew;
  ended : EndBelow l.number l.crew.players.items;
}
