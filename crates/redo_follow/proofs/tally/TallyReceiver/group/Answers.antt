use Rattle.std.proofs.Common.{subst, sym}
use Rattle.redo_follow.specs.Following.{HasTally}
use Rattle.redo_follow.proofs.Tallies.{tally_more}
use Rattle.redo_follow.proofs.tally.TallyReceiver.group.Goals as goal

pub returns : goal.returns
returns c = λ got h.
    let f = c.self.inside in
    tally_more f.count f.crc c.update.new.self c.args._start c.args._end c.args.text.now c.update.ensures.taken got
    (subst (λ z. HasTally z got) (sym c.self.view_is) h)
