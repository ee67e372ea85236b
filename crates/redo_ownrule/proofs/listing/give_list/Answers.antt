use Rattle.redo_ownrule.proofs.OwnList.{give_below, give_list_ok, list_given}
use Rattle.redo_ownrule.proofs.OwnPlaying.{op_played}
use Rattle.redo_ownrule.proofs.listing.give_list.Goals as goal

pub list_turn-requires : goal.list_turn-requires
list_turn-requires g c = give_below c.requires.seat.mine c.args.list c.requires.asks

pub store-requires : goal.store-requires
store-requires g c = give_list_ok c.requires.seat.mine c.args.list c.requires.asks g.L.Sectors.seen g.L.Sectors.gives
    g.D.Sectors.seen g.D.Sectors.gives c.args.table.now.key
    c.list_turn.result c.list_turn.ensures

pub answered_alone-requires : goal.answered_alone-requires
answered_alone-requires g c = (
  c.args.token.now.me.0,
  list_given c.requires.seat.mine
      c.args.list c.requires.asks g.L.Sectors.seen g.D.Sectors.seen c.store.new.seat c.store.ensures.0 0
      c.store.ensures.2,
)

pub returns : goal.returns
returns g c =
    op_played c.requires.seat c.answered_alone.ensures.mine
    (c.answered_alone.ensures.played c.args.token.now.me.0 (list_given c.requires.seat.mine c.args.list
    c.requires.asks g.L.Sectors.seen g.D.Sectors.seen c.store.new.seat c.store.ensures.0 0 c.store.ensures.2))
