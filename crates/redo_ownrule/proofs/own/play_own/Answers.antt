use Rattle.redo_ownrule.proofs.OwnCauses.{own_ends_so}
use Rattle.redo_ownrule.proofs.OwnStepping.{go}
use Rattle.redo_ownrule.proofs.own.play_own.Goals as goal

pub returns-clause-ends : goal.returns-clause-ends
returns-clause-ends g c = own_ends_so g.L.Sectors.seen g.D.Sectors.seen c.args.seat.now.me.0 c.args.user.now
    c.play_next.result c.play_next.new.user c.play_next.ensures.played
    (go c.requires.seat.mine).done
