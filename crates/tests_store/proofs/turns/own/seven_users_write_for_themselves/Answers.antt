use Rattle.tests_store.proofs.turns.own.seven_users_write_for_themselves.Goals as goal

pub own_driven_on-driven-requires-clause-new : goal.own_driven_on-driven-requires-clause-new
own_driven_on-driven-requires-clause-new g c = c.no_followers.ensures c.in_ok-opened.opened.start
