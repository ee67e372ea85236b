use Rattle.std.proofs.Common.{arith}
use Rattle.std.proofs.lemmas.List.{take_rest}
use Rattle.redo_io.proofs.Progress.{HasPut-more, HasWritten_more}
use Rattle.redo_io.proofs.put.put_all.Goals as goal

pub loop-rest-preserved : goal.loop-rest-preserved
loop-rest-preserved g c = record {
  written = rw take_rest (HasWritten_more _ _ _ _ _ _ c.loop-rest.invariant.written c.in_ok-count.ensures.step.count c.in_ok-count.ensures.step.bytes_taken);
  writes = rw take_rest (HasPut-more g.O.Sink.write_gives _ _ _ _ _ _ c.loop-rest.invariant.writes c.in_ok-count.ensures.gives (c.in_ok-count.ensures.step.some (grind arith)));
  later = omega (arith, c.write.ensures.step.later);
}
