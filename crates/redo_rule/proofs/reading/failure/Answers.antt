use Rattle.std.proofs.Common.{arith}
use Rattle.redo_rule.proofs.Glances.{check_ok}
use Rattle.redo_rule.proofs.LoadsOn.{failed_then, unfailed_then}
use Rattle.redo_rule.proofs.reading.failure.Goals as goal

pub load-requires : goal.load-requires
load-requires g c = check_ok g.L.Sectors.seen g.L.Sectors.gives g.D.Sectors.seen
    g.D.Sectors.gives c.args.table.now.key c.args.table.now.table_id c.args.token.now c.args.layout c.requires.0
    c.requires.1 c.number_of.result c.number_of.ensures

pub returns-in-0-clause-read : goal.returns-in-0-clause-read
returns-in-0-clause-read g c = unfailed_then c.args.token.now c.load.new.seat c.load.ensures.0 c.load.ensures.1
    c.load.result c.load.ensures.2 (omega arith)

pub returns-in_default-clause-read : goal.returns-in_default-clause-read
returns-in_default-clause-read g c = failed_then c.args.token.now c.load.new.seat c.load.ensures.0 c.load.ensures.1
    c.load.result c.load.ensures.2 (omega arith)
