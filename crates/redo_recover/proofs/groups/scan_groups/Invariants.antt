use Rattle.std.proofs.Common.{length}
use Rattle.redo_recover.specs.Runs.{AreGroupsSoFar}
use Rattle.redo_recover.proofs.groups.scan_groups.Given as goal

abbrev pub invariant-groups : goal.invariant-groups
invariant-groups l = AreGroupsSoFar l.shape l.bytes l.start l.wholes.items l.end l.rest

abbrev pub decreases-groups : goal.decreases-groups
decreases-groups l = length l.rest
