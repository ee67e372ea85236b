use Rattle.std.proofs.Common.{[], false, true}
use Rattle.model_log.specs.{run_layout}
use Rattle.redo_drive.proofs.FirstUsers.{idle_seat}
use Rattle.redo_drive.proofs.LiveStarts.{if_made, live_begins}
use Rattle.redo_drive.proofs.RunStarts.{begins}
use Rattle.redo_drive.specs.Begins.{BeginsLive, IsOwnOf}
use Rattle.redo_drive.specs.LiveActors.{idle_users, live_actors, live_plan}
use Rattle.redo_drive.proofs.live.begin_live.Goals as goal

pub returns-clause-begins : goal.returns-clause-begins
returns-clause-begins g c =
    let opened = c.args.opened in
    let users = c.args.users in
    let log_only = c.args.log_only in
    if_made opened c.make_own_live-own.result c.begin_on.result
    (IsOwnOf opened.shape opened.pages opened.start (live_actors opened.shape users opened.start (live_plan log_only))
    false [] 0)
    (BeginsLive g.L.Sectors.seen g.D.Sectors.seen g.R.Receiver.stands_for opened users log_only)
    c.begin_on.ensures.so c.make_own_live-own.ensures
    (λ own owns. begins g.L.Sectors.seen g.D.Sectors.seen g.R.Receiver.stands_for opened [] true (live_plan log_only) []
    idle_seat (idle_users (run_layout opened.shape).blocks users)
    (live_begins opened users log_only c.requires.runnable c.requires.below) own owns)
