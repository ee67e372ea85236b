use Rattle.std.proofs.Common.{ap, arith}
use Rattle.redo_ownrule.proofs.LiveCount.{many_actors, others}
use Rattle.redo_live.proofs.quota.actor_count.Goals as goal

pub returns-then-log_only-clause-count : goal.returns-then-log_only-clause-count
returns-then-log_only-clause-count c shape start =
    let m = many_actors shape c.args.users start c.args.log_only in
    let o = ap others c.if-log_only.true in omega arith

pub returns-else-log_only-clause-count : goal.returns-else-log_only-clause-count
returns-else-log_only-clause-count c shape start =
    let m = many_actors shape c.args.users start c.args.log_only in
    let o = ap others c.if-log_only.false in omega arith
