use Rattle.std.proofs.Common.{false, length}
use Rattle.redo_drive.proofs.FirstUsers.{seat_of_user}
use Rattle.redo_drive.proofs.LiveStarts.{if_made, script_begins}
use Rattle.redo_drive.proofs.RunStarts.{begins}
use Rattle.redo_drive.specs.Begins.{BeginsWith, IsOwnOf}
use Rattle.redo_drive.specs.Setups.{seated_actors, users_of}
use Rattle.redo_drive.proofs.making.begin_run_with.Goals as goal

pub returns-clause-begins : goal.returns-clause-begins
returns-clause-begins g c =
    let opened = c.args.opened in
    let script = c.args.script.now in
    let plan = c.args.plan in
    let followers = c.args.followers.items in
    if_made opened c.make_own_of-own.result c.begin_on.result
    (IsOwnOf opened.shape opened.pages opened.start (seated_actors opened.shape script opened.start plan)
    plan.archive followers (length script))
    (BeginsWith g.L.Sectors.seen g.D.Sectors.seen g.R.Receiver.stands_for opened script plan followers)
    c.begin_on.ensures.so c.make_own_of-own.ensures
    (λ own owns. begins g.L.Sectors.seen g.D.Sectors.seen g.R.Receiver.stands_for opened script false plan followers
    (seat_of_user opened.shape plan.log_only script) (users_of opened.shape plan.log_only script)
    (script_begins opened script plan followers c.requires.may c.requires.new) own owns)
