use Rattle.redo_rule.proofs.Glances.{date_ok}
use Rattle.redo_rule.proofs.LoadsOn.{dated_then, own_then, small_then}
use Rattle.redo_rule.proofs.reading.date.Goals as goal

pub load-requires : goal.load-requires
load-requires g c = date_ok g.L.Sectors.seen g.L.Sectors.gives g.D.Sectors.seen
    g.D.Sectors.gives c.args.table.now.key c.args.table.now.table_id c.args.token.now c.args.layout c.args.page
    c.requires.at.0 c.requires.at.1 c.number_of.result c.number_of.ensures

pub returns-clause-dated : goal.returns-clause-dated
returns-clause-dated g c k o = dated_then c.args.table.now.table_id c.args.layout c.args.page c.args.token.now
    c.load.new.seat c.load.ensures.0 c.load.ensures.1 k o c.load.result c.load.ensures.2

pub returns-clause-small : goal.returns-clause-small
returns-clause-small g c = small_then c.args.table.now.table_id c.args.layout c.args.page c.args.token.now
    c.load.new.seat c.load.ensures.0 c.load.ensures.1 c.requires.at.0 c.requires.at.1 c.load.result c.load.ensures.2

pub returns-clause-own : goal.returns-clause-own
returns-clause-own g c = own_then c.args.table.now.table_id c.args.layout c.args.page c.args.token.now
    c.load.new.seat c.load.ensures.0 c.load.ensures.1 c.requires.at.0 c.requires.at.1 c.load.result c.load.ensures.2
