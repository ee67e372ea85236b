-- The turns so far lead from the first state to this one.
use Rattle.redo_machine.proofs.Runs.{InTurns}
use Rattle.redo_machine.proofs.machine.Machine.run.Given as goal

abbrev pub invariant-loop-turn : goal.invariant-loop-turn
invariant-loop-turn g l = InTurns g.L.Sectors.seen g.L.Sectors.gives g.D.Sectors.seen g.D.Sectors.gives
    g.A.Sectors.seen g.A.Sectors.gives g.R.Receiver.stands_for l.seed l.max l.turn l.draws l.seats l.initial.self l.self
