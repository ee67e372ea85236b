use Rattle.redo_threads.proofs.starting.+start.Given as goal

abbrev pub decreases-start : goal.decreases-start
decreases-start g l = l.left
