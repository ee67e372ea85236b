use Rattle.tests_store.proofs.turns.runs.play.Goals as goal

pub returns : goal.returns
returns g c = c.run.ensures.on_run
