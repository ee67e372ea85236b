use Rattle.redo_threads.specs.Archiving.{WorksOn}
use Rattle.redo_threads.specs.Working.{KeepOn}
use Rattle.redo_threads.proofs.crew.play_here.Given as goal

abbrev pub invariant-loop : goal.invariant-loop
invariant-loop g l = record {
  crew : KeepOn g.F.Receiver.stands_for l.table.table_id l.fn.crew l.crew;
  archiver : WorksOn g.A.Sectors.seen g.A.Sectors.gives g.F.Receiver.stands_for l.table.table_id l.fn.archiver
      l.archiver;
}
