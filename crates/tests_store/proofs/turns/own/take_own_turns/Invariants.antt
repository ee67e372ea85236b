-- The machine stays on its run, and has room for all its actors.
use Rattle.redo_ownmachine.specs.OwnCrew.{HasRoom}
use Rattle.redo_ownmachine.specs.OwnStore.{OwnIsOnRun}
use Rattle.tests_store.proofs.turns.own.take_own_turns.Given as goal

abbrev pub invariant-loop-turn : goal.invariant-loop-turn
invariant-loop-turn g l = OwnIsOnRun g.L.Sectors.seen g.D.Sectors.seen g.A.Sectors.seen l.machine × HasRoom l.machine
