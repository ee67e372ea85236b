use Rattle.tests_store.proofs.turns.runs.take_turns.Goals as goal

pub returns-then-ne : goal.returns-then-ne
returns-then-ne g c = c.turn-turned.ensures.on_run

pub loop-turn-preserved : goal.loop-turn-preserved
loop-turn-preserved g c = c.turn-turned.ensures.on_run
