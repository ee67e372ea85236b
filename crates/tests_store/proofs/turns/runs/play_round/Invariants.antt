-- The machine stays on its run.
use Rattle.redo_machine.specs.Reading.{IsOnRun}
use Rattle.tests_store.proofs.turns.runs.play_round.Given as goal

abbrev pub invariant-loop-seat : goal.invariant-loop-seat
invariant-loop-seat g l = IsOnRun g.L.Sectors.seen g.D.Sectors.seen g.L.Sectors.seen l.machine
