use Rattle.redo_live.specs.Serving.{Stays}
use Rattle.tests_live.proofs.refusals.MisfitsWorkDeviceDevice.serve.Given as goal

abbrev pub invariant-loop-text : goal.invariant-loop-text
invariant-loop-text g l = Stays l.store l.initial.user l.user
