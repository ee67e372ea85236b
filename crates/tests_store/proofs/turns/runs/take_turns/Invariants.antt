-- The machine stays on its run.
use Rattle.redo_machine.specs.Reading.{IsOnRun}
use Rattle.tests_store.proofs.turns.runs.take_turns.Given as goal

abbrev pub invariant-loop-turn : goal.invariant-loop-turn
invariant-loop-turn g l = IsOnRun g.L.Sectors.seen g.D.Sectors.seen g.L.Sectors.seen l.machine
