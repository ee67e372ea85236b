use Rattle.redo_ownmachine.proofs.Serves.{user_fits}
use Rattle.redo_ownmachine.proofs.turning.serve_user.Goals as goal

pub took-requires-clause-fits : goal.took-requires-clause-fits
took-requires-clause-fits g c = user_fits g.L.Sectors.seen g.D.Sectors.seen c.args.parts.now c.play-answer.new.parts
    c.args.user.now c.args.work.now c.requires c.next.result c.next.ensures c.lent.result c.lent.ensures
    c.play-answer.result c.play-answer.ensures.played
