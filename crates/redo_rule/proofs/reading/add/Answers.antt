use Rattle.redo_rule.proofs.Glances.{add_ok}
use Rattle.redo_rule.proofs.LoadsOn.{added_then}
use Rattle.redo_rule.proofs.reading.add.Goals as goal

pub load-requires : goal.load-requires
load-requires g c = add_ok g.L.Sectors.seen g.L.Sectors.gives g.D.Sectors.seen
    g.D.Sectors.gives c.args.table.now.key c.args.table.now.table_id c.args.token.now c.args.layout c.args.page
    c.requires.at.0 c.requires.at.1 c.args.number c.number_of.result c.requires.at.2 c.requires.room c.number_of.ensures

pub returns : goal.returns
returns g c k o = added_then c.args.table.now.table_id c.args.layout c.args.page c.args.token.now
    c.load.new.seat c.load.ensures.0 c.load.ensures.1 k o c.load.result c.load.ensures.2
