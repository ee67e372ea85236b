use Rattle.redo_ownmachine.proofs.Starts.{has_still_room}
use Rattle.tests_store.proofs.turns.own.take_rounds.Goals as goal

pub loop-seat-init : goal.loop-seat-init
loop-seat-init g c = (c.run.ensures.on_run, has_still_room _ _ c.loop.invariant.1 c.run.ensures.seats)
