use Rattle.std.proofs.Common.{◌-◌}
use Rattle.redo_finish.specs.{Finishes}
use Rattle.redo_finish.proofs.finishing.finish_archive.Given as goal

abbrev pub invariant-loop-log : goal.invariant-loop-log
invariant-loop-log g l = Finishes g.L.Sectors.seen g.L.Sectors.gives g.A.Sectors.seen g.A.Sectors.gives l.flushed
    l.fn.log l.log l.fn.part l.part

abbrev pub decreases-loop-log : goal.decreases-loop-log
decreases-loop-log g l = l.flushed - l.part.marks.mark
