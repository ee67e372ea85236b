-- The machine stays on its run.
use Rattle.redo_machine.specs.Reading.{IsOnRun}
use Rattle.tests_store.proofs.turns.runs.play.Given as goal

abbrev pub invariant-loop-word : goal.invariant-loop-word
invariant-loop-word g l = IsOnRun g.L.Sectors.seen g.D.Sectors.seen g.L.Sectors.seen l.machine

abbrev pub invariant-loop : goal.invariant-loop
invariant-loop g l = IsOnRun g.L.Sectors.seen g.D.Sectors.seen g.L.Sectors.seen l.machine
