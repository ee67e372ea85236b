use Rattle.std.proofs.Common.{arith, subst}
use Rattle.model_core.specs.{UserState}
use Rattle.model_running.specs.{HasEnded}
use Rattle.redo_machine.specs.OpenUsers.{IsOpenUser}
use Rattle.redo_ownmachine.proofs.OpenLoop.{all_before, before_more, is_first}
use Rattle.redo_ownmachine.proofs.open_users.open_user.Goals as goal

pub returns-in-Some : goal.returns-in-Some
returns-in-Some c = is_first c.args.users.now c.loop-seat.seat c.index-users-seat.result c.index-users-seat.is
    c.in-Some.number (omega arith) c.loop-seat.invariant
    (subst (λ (u : UserState). IsOpenUser u c.in-Some.number) c.user.ensures c.in-Some.ensures)

pub loop-seat-preserved : goal.loop-seat-preserved
loop-seat-preserved c = before_more c.args.users.now c.loop-seat.seat c.index-users-seat.result c.index-users-seat.is
    (omega arith) c.loop-seat.invariant (subst HasEnded c.user.ensures c.in-None.ensures)

pub returns : goal.returns
returns c = all_before c.args.users.now c.loop-seat.seat (omega arith) c.loop-seat.invariant
