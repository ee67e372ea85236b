use Rattle.redo_live.proofs.GivenLine.{has_line}
use Rattle.redo_live.proofs.giving.give_line.Goals as goal

pub returns-clause-ok : goal.returns-clause-ok
returns-clause-ok g c u may =
    has_line c.args.table.now.table_id c.args.table.now.key u c.args.line.now c.args.group c.args.shape.now
    c.args.log_only c.args.seat.now c.hand_in.new.token c.args.player.now c.take_line.new.player may c.requires.key.0
    c.requires.key.1 (c.in_ok-take_line.ensures.ok u may.plays) c.hand_in.ensures.of c.hand_in.ensures.line
