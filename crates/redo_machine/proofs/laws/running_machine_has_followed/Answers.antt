use Rattle.redo_machine.proofs.FollowsRun.{follows_log}
use Rattle.redo_machine.proofs.laws.running_machine_has_followed.Goals as goal

pub returns : goal.returns
returns g c = λ run archive starts actors parts from told seat before after number first now.
    follows_log g.L.Sectors.seen g.D.Sectors.seen g.R.Receiver.stands_for run starts actors parts from told seat
    before after number first now
