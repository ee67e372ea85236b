use Rattle.redo_live.specs.Serving.{Stays}
use Rattle.tests_live.proofs.pages.CountingWorkDeviceDevice.serve.Given as goal

abbrev pub invariant-loop : goal.invariant-loop
invariant-loop g l = Stays l.store l.initial.user l.user
