use Rattle.model_page.proofs.BestCopy.{IsBestSoFar}
use Rattle.redo_page.proofs.kept.best_copy.Given as goal

abbrev pub invariant-loop-slot : goal.invariant-loop-slot
invariant-loop-slot l = IsBestSoFar l.shape l.image l.page l.slot l.best
