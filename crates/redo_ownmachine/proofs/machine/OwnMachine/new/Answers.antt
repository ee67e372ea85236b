use Rattle.std.proofs.Common.{List, ap, arith, length, refl, subst, ◌≡◌}
use Rattle.redo_drive.specs.{plan_with}
use Rattle.redo_drive.specs.Begins.{BeginsWith}
use Rattle.redo_drive.specs.declared.actor.Actor.{Actor}
use Rattle.redo_drive.specs.declared.plan.Plan.{Plan}
use Rattle.redo_ownmachine.proofs.Begins.{have_workers, own_begins}
use Rattle.redo_ownmachine.proofs.Places.{crew_length}
use Rattle.redo_ownmachine.proofs.Starts.{on_its_run}
use Rattle.redo_ownmachine.proofs.machine.OwnMachine.new.Goals as goal

pub take_seats-requires : goal.take_seats-requires
take_seats-requires g c = have_workers g.L.Sectors.seen g.D.Sectors.seen g.R.Receiver.stands_for c.args.opened
    c.args.script.now _ c.args.followers.items c.in-Ok.begun c.in-Ok.ensures.begins

begun : goal.returns-in-Ok-take_seats-clause-begins
begun g c =
    let made = c.in-Ok-take_seats.field-0 in
    let long = crew_length made.work made.users.items made.others.items in
    let same = ap (λ (l : List (Actor g.row.R.Denot)). length l) c.in-Ok-take_seats.ensures.crew in
    let room = c.in-Ok-take_seats.ensures.room in
    let many : c.len.result ≡ length c.args.followers.items = let n = c.len.ensures in omega arith in
    own_begins g.L.Sectors.seen g.D.Sectors.seen g.R.Receiver.stands_for c.args.opened c.args.script.now
    (plan_with c.args.log_only c.args.archive c.args.followers.items) c.args.followers.items c.in-Ok.begun
    (subst (λ (p : Plan). BeginsWith g.L.Sectors.seen g.D.Sectors.seen g.R.Receiver.stands_for c.args.opened
    c.args.script.now p c.args.followers.items c.in-Ok.begun)
    (λ i. record { log_only = c.args.log_only; archive = c.is_some.ensures i; followers = many i })
    c.in-Ok.ensures.begins) c.requires.may _ refl refl
    c.in-Ok-take_seats.ensures.crew c.in-Ok-take_seats.ensures.at_home
    (record { empty = room.0; enough = (let enough = room.1 in omega arith) })

pub returns-in-Ok-take_seats-clause-begins : goal.returns-in-Ok-take_seats-clause-begins
returns-in-Ok-take_seats-clause-begins g c = begun g c

pub returns-in-Ok-take_seats-clause-on_run : goal.returns-in-Ok-take_seats-clause-on_run
returns-in-Ok-take_seats-clause-on_run g c = on_its_run g.L.Sectors.seen g.D.Sectors.seen g.A.Sectors.seen
    g.A.Sectors.gives
    g.R.Receiver.stands_for c.args.opened c.args.script.now c.args.log_only c.args.archive c.args.followers.items _
    (begun g c) c.requires.may c.requires.archive refl c.requires.new
