use Rattle.redo_ownrule.proofs.OwnAnswers.{has_played, keeps_seat, mine_alone}
use Rattle.redo_ownrule.proofs.answering.answered_alone.Goals as goal

pub returns-clause-mine : goal.returns-clause-mine
returns-clause-mine g c = let I = c.requires.1 in mine_alone g.L.Sectors.seen g.D.Sectors.seen
    c.args.table.now.table_id c.requires.0 c.args.token.now c.args.user.now c.args.answer I c.took_alone.new.self
    (c.took_alone.ensures.user I.step.work)

pub returns-clause-played : goal.returns-clause-played
returns-clause-played g c = λ v I. (
  has_played g.L.Sectors.seen g.D.Sectors.seen c.args.table.now.table_id v c.args.token.now c.args.user.now
      c.args.answer I.step c.took_alone.new.self c.took_alone.result (c.took_alone.ensures.user I.step.work)
      (c.took_alone.ensures.step I.step.work),
  keeps_seat g.L.Sectors.seen g.D.Sectors.seen c.args.table.now.table_id v c.args.token.now c.args.user.now
      c.args.answer I.step,
)
