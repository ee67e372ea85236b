-- The machine stays on its run, and has room for all its actors.
use Rattle.redo_ownmachine.specs.OwnCrew.{HasRoom}
use Rattle.redo_ownmachine.specs.OwnStore.{OwnIsOnRun}
use Rattle.tests_store.proofs.turns.own.take_rounds.Given as goal

abbrev pub invariant-loop : goal.invariant-loop
invariant-loop g l = OwnIsOnRun g.L.Sectors.seen g.D.Sectors.seen g.A.Sectors.seen l.machine × HasRoom l.machine

abbrev pub invariant-loop-seat : goal.invariant-loop-seat
invariant-loop-seat g l = OwnIsOnRun g.L.Sectors.seen g.D.Sectors.seen g.A.Sectors.seen l.machine × HasRoom l.machine
