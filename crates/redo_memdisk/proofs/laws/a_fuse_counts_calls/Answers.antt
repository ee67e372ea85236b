use Rattle.redo_memdisk.proofs.Behind.{after-calls, counts-calls, keeps-behind}
use Rattle.redo_memdisk.proofs.laws.a_fuse_counts_calls.Goals as goal

pub returns-clause-after : goal.returns-clause-after
returns-clause-after g c = after-calls g.D.Sectors.seen g.D.Sectors.gives

pub returns-clause-counts : goal.returns-clause-counts
returns-clause-counts g c = counts-calls g.D.Sectors.seen g.D.Sectors.gives

pub returns-clause-behind : goal.returns-clause-behind
returns-clause-behind g c = keeps-behind g.D.Sectors.seen g.D.Sectors.gives
