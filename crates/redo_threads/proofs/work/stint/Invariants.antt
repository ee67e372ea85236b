use Rattle.redo_ownrule.specs.Playing.{PlayerAsks}
use Rattle.redo_threads.specs.Archiving.{GoesOnWith}
use Rattle.redo_threads.proofs.work.stint.Given as goal

abbrev pub invariant-loop-steps : goal.invariant-loop-steps
invariant-loop-steps g l = record {
  goes_on : GoesOnWith g.A.Sectors.seen g.A.Sectors.gives g.F.Receiver.stands_for l.table.table_id l.fn.seat l.fn.player
      l.fn.archive l.seat l.player l.archive;
  asks : PlayerAsks l.seat.me.0 l.player l.op;
}
