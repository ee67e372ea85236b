use Rattle.redo_machine.proofs.PlayedNext.{is_served, may_mark, may_take}
use Rattle.redo_machine.proofs.turning.serve.Goals as goal

pub took-requires-clause-fits : goal.took-requires-clause-fits
took-requires-clause-fits g c = may_take g.L.Sectors.seen g.D.Sectors.seen c.args.parts.now c.play_next-answer.new.parts
    c.args.actor.now c.play_next-answer.new.actor c.play_next-answer.result c.play_next-answer.ensures.played c.requires

pub took-requires-clause-mark : goal.took-requires-clause-mark
took-requires-clause-mark g c = may_mark g.L.Sectors.seen g.D.Sectors.seen c.args.parts.now c.play_next-answer.new.parts
    c.args.actor.now c.play_next-answer.new.actor c.play_next-answer.result c.play_next-answer.ensures.played c.requires

-- what was played for it, with what it lends, is its turn
pub returns-clause-served : goal.returns-clause-served
returns-clause-served g c = λ run. is_served g.L.Sectors.seen g.D.Sectors.seen c.args.parts.now
    c.play_next-answer.new.parts
    c.args.actor.now c.play_next-answer.new.actor c.play_next-answer.result c.play_next-answer.ensures.played
    g.R.Receiver.stands_for run c.took.new.self c.took.result c.took.ensures
