use Rattle.std.proofs.Common.{subst}
use Rattle.redo_machine.proofs.Ended.{not_all, not_all_first}
use Rattle.redo_machine.specs.OpenUsers.{IsOpen}
use Rattle.redo_drive.specs.{view_of, views_of}
use Rattle.redo_drive.specs.declared.actor.Actor.{Actor}
use Rattle.redo_machine.proofs.open_users.open_seat.Goals as goal

pub returns-in-Some : goal.returns-in-Some
returns-in-Some g c = not_all c.args.actors.now c.args.seat c.index-actors-seat.result c.in-Some.field-0
    c.if-seat-actors.true
    (subst (λ (z : Actor g.row.R.Denot). IsOpen (view_of z) c.in-Some.field-0) c.index-actors-seat.is c.in-Some.ensures)

pub returns-in-Some-open_user : goal.returns-in-Some-open_user
returns-in-Some-open_user g c = not_all_first (views_of c.args.actors.now) c.in-Some-open_user.field-0-1
    c.in-Some-open_user.ensures
