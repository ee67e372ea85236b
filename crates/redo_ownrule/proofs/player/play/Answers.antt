use Rattle.redo_ownrule.proofs.OwnLater.{plain_later, same_seat, user_later}
use Rattle.redo_ownrule.proofs.player.play.Goals as goal

pub returns-in-Plain-clause-player : goal.returns-in-Plain-clause-player
returns-in-Plain-clause-player g c = plain_later g.L.Sectors.seen g.D.Sectors.seen c.args.player.now c.play.result
    c.in-Plain.actor c.play.new.actor c.in-Plain.is c.play.ensures.played

pub returns-in-Own-clause-player : goal.returns-in-Own-clause-player
returns-in-Own-clause-player g c = user_later g.L.Sectors.seen g.D.Sectors.seen c.args.player.now c.play_own.result
    c.in-Own.user c.play_own.new.user c.in-Own.is c.play_own.ensures.played

pub returns-in-Own-clause-same : goal.returns-in-Own-clause-same
returns-in-Own-clause-same g c = same_seat g.R.Receiver.stands_for c.args.seat.now.me.0 c.play_own.new.seat.me.0
    c.args.player.now c.in-Own.user c.play_own.new.user c.in-Own.is c.play_own.ensures.same
