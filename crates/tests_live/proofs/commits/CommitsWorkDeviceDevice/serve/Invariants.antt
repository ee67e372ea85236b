use Rattle.redo_live.specs.Serving.{Stays}
use Rattle.tests_live.proofs.commits.CommitsWorkDeviceDevice.serve.Given as goal

abbrev pub invariant-loop-mode : goal.invariant-loop-mode
invariant-loop-mode g l = Stays l.store l.initial.user l.user
