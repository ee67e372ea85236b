use Rattle.tests_store.proofs.turns.runs.closed_of.Goals as goal

pub machine_on-machine-requires-clause-new : goal.machine_on-machine-requires-clause-new
machine_on-machine-requires-clause-new g c = c.no_followers.ensures c.in_ok-opened.opened.start
