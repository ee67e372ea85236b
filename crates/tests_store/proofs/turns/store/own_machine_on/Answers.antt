use Rattle.tests_store.proofs.turns.store.own_machine_on.Goals as goal

pub new-requires-clause-new : goal.new-requires-clause-new
new-requires-clause-new g c = c.no_followers.ensures c.args.opened.start
