use Rattle.std.proofs.Common.{arith, ap, subst, sym, ◌<◌, ◌∙◌}
use Rattle.atomic_table.specs.Table.{Allows}
use Rattle.model_core.specs.{Line}
use Rattle.redo_rule.proofs.HandedIn.{allows_hand}
use Rattle.redo_rule.proofs.handing.hand_as.Goals as goal
use Rattle.redo_rule.specs.HandIn.{handed_in}
use Rattle.redo_rule.specs.Ruled.{Ruled}

pub load-requires : goal.load-requires
load-requires g c = let m = c.requires.may in (
  m.of,
  (let w = m.words in omega arith),
  subst (λ (l : Line). Allows (Ruled g.L.Sectors.seen g.L.Sectors.gives g.D.Sectors.seen g.D.Sectors.gives
      c.args.table.now.key) c.args.table.now.table_id.slots c.args.token.now.id c.args.token.now.me 0 (λ n. n)
      (handed_in l c.args.token.now.me)) (sym c.requires.line)
      (allows_hand g.L.Sectors.seen g.L.Sectors.gives g.D.Sectors.seen g.D.Sectors.gives c.args.table.now.key
      c.args.table.now.table_id.slots c.args.token.now.id c.args.token.now.me m.who m.sits m.plain m.user m.is m.done
      m.live m.is_live c.args.line.now m.number m.in_range m.fits m.room 0),
)

pub returns-clause-line : goal.returns-clause-line
returns-clause-line g c = subst (λ (l : Line). handed_in l c.args.token.now.me 0 c.load.new.seat.me) c.requires.line
    c.load.ensures.2
