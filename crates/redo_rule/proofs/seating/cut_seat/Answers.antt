use Rattle.std.proofs.Common.{◌∙◌}
use Rattle.redo_rule.proofs.Cuts.{cut_ok, first_left}
use Rattle.redo_rule.proofs.seating.cut_seat.Goals as goal

pub split_seat-requires : goal.split_seat-requires
split_seat-requires g c = cut_ok g.L.Sectors.seen g.L.Sectors.gives g.D.Sectors.seen g.D.Sectors.gives c.args.table.now.key c.args.table.now.table_id c.args.first.now c.requires.first c.requires.head

pub returns-clause-first : goal.returns-clause-first
returns-clause-first g c = let e = c.split_seat.ensures in first_left g.L.Sectors.seen g.L.Sectors.gives g.D.Sectors.seen g.D.Sectors.gives c.args.table.now.key c.args.table.now.table_id c.args.first.now c.requires.first c.requires.head c.split_seat.new.seat e.0 e.2

pub returns-clause-right : goal.returns-clause-right
returns-clause-right g c = let e = c.split_seat.ensures in (e.3 ∙ c.requires.first.of, e.4)
