use Rattle.std.proofs.Common.{subst}
use Rattle.model_core.specs.{UserState}
use Rattle.redo_machine.specs.OpenUsers.{IsOpenUser}
use Rattle.redo_ownmachine.proofs.OpenLoop.{not_all, not_all_first}
use Rattle.redo_ownmachine.proofs.open_users.open_seat.Goals as goal

pub returns-in-Some : goal.returns-in-Some
returns-in-Some c = not_all c.args.users.now c.args.seat c.index-users-seat.result c.index-users-seat.is
    c.in-Some.field-0 c.if-seat-users.true
    (subst (λ (u : UserState). IsOpenUser u c.in-Some.field-0) c.user.ensures c.in-Some.ensures)

pub returns-in-Some-open_user : goal.returns-in-Some-open_user
returns-in-Some-open_user c = not_all_first c.args.users.now c.in-Some-open_user.field-0-1 c.in-Some-open_user.ensures
