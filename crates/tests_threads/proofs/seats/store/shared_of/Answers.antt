use Rattle.std.proofs.Common.{arith}
use Rattle.tests_threads.proofs.seats.store.shared_of.Goals as goal

pub new-requires-clause-new : goal.new-requires-clause-new
new-requires-clause-new c = record {
  new = c.no_followers-followers.ensures c.args.ready.opened.start;
  many = (let n = c.len.ensures in omega arith);
}
