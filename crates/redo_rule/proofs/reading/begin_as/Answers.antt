use Rattle.std.proofs.Common.{ap, sym, subst, ℕ, ◌≡◌, ◌∙◌}
use Rattle.redo_rule.proofs.Glances.{Asks, begin_ok}
use Rattle.redo_rule.proofs.reading.begin_as.Goals as goal
use Rattle.redo_rule.specs.Reading.{begins}

pub load-requires : goal.load-requires
load-requires g c = subst (λ (p : ℕ). Asks g.L.Sectors.seen g.L.Sectors.gives g.D.Sectors.seen
    g.D.Sectors.gives c.args.table.now.key c.args.table.now.table_id c.args.token.now c.args.layout c.args.page
    c.number_of.result (begins p c.args.token.now.me)) (sym c.requires.page)
    (begin_ok g.L.Sectors.seen g.L.Sectors.gives g.D.Sectors.seen
    g.D.Sectors.gives c.args.table.now.key c.args.table.now.table_id c.args.token.now c.args.layout c.args.page
    c.requires.may c.number_of.result c.number_of.ensures)

pub returns : goal.returns
returns g c = record {
  of = c.load.ensures.0;
  id = c.load.ensures.1;
  is = subst (λ (p : ℕ). begins p c.args.token.now.me c.load.result c.load.new.seat.me) c.requires.page
      c.load.ensures.2;
}
