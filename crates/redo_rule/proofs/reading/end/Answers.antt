use Rattle.redo_rule.proofs.Glances.{end_ok}
use Rattle.redo_rule.proofs.LoadsOn.{ended_then, moved_then}
use Rattle.redo_rule.proofs.reading.end.Goals as goal

pub load-requires : goal.load-requires
load-requires g c = end_ok g.L.Sectors.seen g.L.Sectors.gives g.D.Sectors.seen
    g.D.Sectors.gives c.args.table.now.key c.args.table.now.table_id c.args.token.now c.args.layout c.args.page
    c.requires.at.0 c.requires.at.1 c.number_of.result c.number_of.ensures c.requires.at.2 c.requires.at.3

pub returns-clause-same : goal.returns-clause-same
returns-clause-same g c k o is = ended_then c.args.table.now.table_id c.args.layout c.args.page c.args.token.now
    c.load.new.seat c.load.ensures.0 c.load.ensures.1 k o c.load.result c.load.ensures.2 is

pub returns-clause-other : goal.returns-clause-other
returns-clause-other g c k o is = moved_then c.args.table.now.table_id c.args.layout c.args.page c.args.token.now
    c.load.new.seat c.load.ensures.0 c.load.ensures.1 k o c.load.result c.load.ensures.2 is
