use Rattle.std.proofs.Common.{◌≤◌, drop, length}
use Rattle.redo_recover.specs.Runs.{AreGroupsSoFar}
use Rattle.redo_recover.proofs.run.read_run.Given as goal

abbrev pub invariant-loop-to : goal.invariant-loop-to
invariant-loop-to l = (l.to ≤ length l.bytes) × AreGroupsSoFar l.shape (drop l.from l.bytes) l.start l.wholes.items l.end (drop l.to l.bytes)

abbrev pub decreases-loop-to : goal.decreases-loop-to
decreases-loop-to l = length (drop l.to l.bytes)
