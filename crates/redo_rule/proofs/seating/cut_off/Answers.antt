use Rattle.redo_rule.proofs.Cuts.{cut_mine, look_ok}
use Rattle.std.proofs.Common.{ap, sym, ◌∙◌}
use Rattle.redo_rule.proofs.seating.cut_off.Goals as goal

pub load-requires : goal.load-requires
load-requires g c = let e = c.cut_seat-token.ensures.right in look_ok g.L.Sectors.seen g.L.Sectors.gives g.D.Sectors.seen g.D.Sectors.gives c.args.table.now.key c.args.table.now.table_id c.args.first.now c.requires.first c.requires.head c.cut_seat-token.result (e.0 ∙ sym c.requires.first.of) e.1

pub returns-clause-mine : goal.returns-clause-mine
returns-clause-mine g c = let e = c.cut_seat-token.ensures.right in cut_mine g.L.Sectors.seen g.L.Sectors.gives g.D.Sectors.seen g.D.Sectors.gives c.args.table.now.key c.args.table.now.table_id c.args.first.now c.requires.first c.requires.head c.cut_seat-token.result (e.0 ∙ sym c.requires.first.of) e.1 c.load.new.seat c.load.ensures.0 c.load.result c.load.ensures.2

pub returns-clause-right : goal.returns-clause-right
returns-clause-right g c = ap (λ m. m.0) (c.load.ensures.2.0 ∙ c.cut_seat-token.ensures.right.1)
