use Rattle.redo_drive.specs.{view_of}
use Rattle.redo_rule.proofs.Causes.{ends_so}
use Rattle.redo_rule.proofs.playing.play.Goals as goal

pub returns-clause-ends : goal.returns-clause-ends
returns-clause-ends g c =
    ends_so g.L.Sectors.seen g.D.Sectors.seen c.args.seat.now.me.0
    (view_of c.args.actor.now) c.play_next.new.actor c.play_next.result
    c.play_next.ensures.played c.requires.seat.mine.may.done
