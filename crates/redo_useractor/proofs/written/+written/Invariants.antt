use Rattle.std.proofs.Common.{length}
use Rattle.redo_useractor.proofs.written.+written.Given as goal

abbrev pub decreases-written : goal.decreases-written
decreases-written l = length l.recs.now
