use Rattle.std.proofs.Common.{◌≤◌, length}
use Rattle.redo_io.proofs.Progress.{HasPut, HasWritten}
use Rattle.redo_io.proofs.put.put_all.Given as goal

abbrev pub invariant-loop-rest : goal.invariant-loop-rest
invariant-loop-rest g l = record {
  written : HasWritten (g.O.Sink.seen l.fn.sink).taken l.bytes l.rest (g.O.Sink.seen l.sink).taken;
  writes : HasPut g.O.Sink.write_gives l.fn.sink l.bytes l.sink l.rest;
  later : (g.O.Sink.seen l.fn.sink).faults ≤ (g.O.Sink.seen l.sink).faults;
}

abbrev pub decreases-loop-rest : goal.decreases-loop-rest
decreases-loop-rest g l = length l.rest
