use Rattle.redo_threads.proofs.Going.{with_asked, with_trans}
use Rattle.redo_threads.proofs.work.turn.Goals as goal

pub returns-clause-goes_on : goal.returns-clause-goes_on
returns-clause-goes_on g c =
    let played = c.play_with-step.new in
    with_trans g.F.Receiver.stands_for c.args.table.now.table_id g.A.Sectors.seen g.A.Sectors.gives c.args.seat.now
    played.seat
    c.ask-now.new.seat c.args.player.now played.player played.player c.args.archive.now played.archive played.archive
    c.play_with-step.ensures
    (with_asked g.F.Receiver.stands_for c.args.table.now.table_id g.A.Sectors.seen g.A.Sectors.gives played.seat
    c.ask-now.new.seat played.player played.archive c.ask-now.ensures.seat c.ask-now.ensures.same)
