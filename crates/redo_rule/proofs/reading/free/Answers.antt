use Rattle.redo_rule.proofs.Glances.{free_ok}
use Rattle.redo_rule.proofs.LoadsOn.{freed_then, held_then}
use Rattle.redo_rule.proofs.reading.free.Goals as goal

pub load-requires : goal.load-requires
load-requires g c = free_ok g.L.Sectors.seen g.L.Sectors.gives g.D.Sectors.seen
    g.D.Sectors.gives c.args.table.now.key c.args.table.now.table_id c.args.token.now c.args.layout c.args.page
    c.requires.at.0 c.requires.at.1 c.number_of.result c.number_of.ensures

pub returns-clause-free : goal.returns-clause-free
returns-clause-free g c is k o = freed_then c.args.table.now.table_id c.args.layout c.args.page c.args.token.now
    c.load.new.seat c.load.ensures.0 c.load.ensures.1 k o c.load.result c.load.ensures.2 is

pub returns-clause-held : goal.returns-clause-held
returns-clause-held g c is k o = held_then c.args.table.now.table_id c.args.layout c.args.page c.args.token.now
    c.load.new.seat c.load.ensures.0 c.load.ensures.1 k o c.load.result c.load.ensures.2 is
