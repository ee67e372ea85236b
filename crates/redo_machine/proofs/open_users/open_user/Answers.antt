use Rattle.std.proofs.Common.{arith, subst}
use Rattle.redo_machine.proofs.Ended.{all_ended, below_more, first_open}
use Rattle.redo_machine.specs.OpenUsers.{IsOpen, IsOver}
use Rattle.redo_drive.specs.{view_of}
use Rattle.redo_drive.specs.declared.actor.Actor.{Actor}
use Rattle.redo_machine.proofs.open_users.open_user.Goals as goal

pub returns-in-Some : goal.returns-in-Some
returns-in-Some g c = first_open c.args.actors.now c.loop-seat.seat c.index-actors-seat.result c.in-Some.user
    (omega arith) c.loop-seat.invariant
    (subst (λ (z : Actor g.row.R.Denot). IsOpen (view_of z) c.in-Some.user) c.index-actors-seat.is c.in-Some.ensures)

pub loop-seat-preserved : goal.loop-seat-preserved
loop-seat-preserved g c = below_more c.args.actors.now c.loop-seat.seat c.index-actors-seat.result (omega arith)
    c.loop-seat.invariant
    (subst (λ (z : Actor g.row.R.Denot). IsOver (view_of z)) c.index-actors-seat.is c.in-None.ensures)

pub returns : goal.returns
returns g c = all_ended c.args.actors.now c.loop-seat.seat (omega arith) c.loop-seat.invariant
