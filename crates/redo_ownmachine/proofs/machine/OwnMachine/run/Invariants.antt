-- The turns so far lead from the first state to this one.
use Rattle.redo_ownmachine.proofs.Runs.{InOwnTurns}
use Rattle.redo_ownmachine.proofs.machine.OwnMachine.run.Given as goal

abbrev pub invariant-loop-turn : goal.invariant-loop-turn
invariant-loop-turn g l = InOwnTurns g.L.Sectors.seen g.L.Sectors.gives g.D.Sectors.seen g.D.Sectors.gives
    g.A.Sectors.seen g.A.Sectors.gives g.R.Receiver.stands_for l.seed l.max l.turn l.draws l.seats l.initial.self l.self
