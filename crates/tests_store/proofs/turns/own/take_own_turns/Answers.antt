use Rattle.redo_ownmachine.proofs.Starts.{has_still_room}
use Rattle.tests_store.proofs.turns.own.take_own_turns.Goals as goal

pub returns-then-ne-clause-room : goal.returns-then-ne-clause-room
returns-then-ne-clause-room g c = has_still_room _ _ c.loop-turn.invariant.1 c.turn-turned.ensures.seats

pub loop-turn-preserved : goal.loop-turn-preserved
loop-turn-preserved g c = (
  c.turn-turned.ensures.on_run,
  has_still_room _ _ c.loop-turn.invariant.1 c.turn-turned.ensures.seats,
)
