use Rattle.redo_ownrule.proofs.Seatings.{own_cut, own_look_ok}
use Rattle.redo_ownrule.proofs.seats.cut_one.Goals as goal

pub load-requires : goal.load-requires
load-requires g c = let e = c.cut_seat-token.ensures.right in own_look_ok c.args.table.now.table_id c.args.first.now
    c.requires.first c.in-Own.field-0 c.args.player.now c.in-Own.is c.requires.head c.cut_seat-token.result e.0 e.1
    g.L.Sectors.seen g.L.Sectors.gives g.D.Sectors.seen g.D.Sectors.gives c.args.table.now.key

pub returns-in-Own-clause-mine : goal.returns-in-Own-clause-mine
returns-in-Own-clause-mine g c = let e = c.cut_seat-token.ensures.right in own_cut c.args.table.now.table_id
    c.args.first.now c.requires.first c.in-Own.field-0 c.args.player.now c.in-Own.is c.requires.head
    c.cut_seat-token.result e.0 e.1 g.L.Sectors.seen g.D.Sectors.seen c.load.new.seat c.load.ensures.0 c.load.result
    c.load.ensures.2
