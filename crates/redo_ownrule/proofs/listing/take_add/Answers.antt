use Rattle.redo_ownrule.proofs.OwnList.{lends_list, list_fits, list_held, list_taken, take_add_ok}
use Rattle.redo_ownrule.proofs.OwnPlaying.{op_played}
use Rattle.redo_ownrule.proofs.listing.take_add.Goals as goal

pub compare_exchange-requires : goal.compare_exchange-requires
compare_exchange-requires g c = take_add_ok c.requires.seat.mine c.args.page c.args.oldest c.requires.asks
    g.L.Sectors.seen g.L.Sectors.gives g.D.Sectors.seen g.D.Sectors.gives c.args.table.now.key
    c.list_turn.result c.list_turn.ensures

pub answered_alone-requires : goal.answered_alone-requires
answered_alone-requires g c = (
  c.args.token.now.me.0,
  list_held c.requires.seat.mine
      c.args.page c.args.oldest c.requires.asks g.L.Sectors.seen g.D.Sectors.seen c.compare_exchange.new.seat
      c.compare_exchange.ensures.0 c.compare_exchange.result c.compare_exchange.ensures.2
      c.if-compare_exchange-ne0.true,
)

pub returns-then-compare_exchange-ne0 : goal.returns-then-compare_exchange-ne0
returns-then-compare_exchange-ne0 g c =
    op_played c.requires.seat c.answered_alone.ensures.mine
    (c.answered_alone.ensures.played c.args.token.now.me.0
    (list_held c.requires.seat.mine c.args.page c.args.oldest c.requires.asks g.L.Sectors.seen g.D.Sectors.seen
    c.compare_exchange.new.seat
    c.compare_exchange.ensures.0 c.compare_exchange.result c.compare_exchange.ensures.2
    c.if-compare_exchange-ne0.true))

pub slot_mut-requires : goal.slot_mut-requires
slot_mut-requires g c = lends_list c.requires.seat.mine c.args.page c.args.oldest c.requires.asks g.L.Sectors.seen
    g.D.Sectors.seen c.compare_exchange.new.seat
    c.compare_exchange.ensures.0 c.compare_exchange.result c.compare_exchange.ensures.2
    c.if-compare_exchange-ne0.false
    c.list_slot.result c.list_slot.ensures

pub add_slot-requires : goal.add_slot-requires
add_slot-requires g c = list_fits c.requires.seat.mine c.args.page c.args.oldest c.requires.asks g.L.Sectors.seen
    g.D.Sectors.seen c.compare_exchange.new.seat
    c.compare_exchange.ensures.0 c.compare_exchange.result c.compare_exchange.ensures.2
    c.if-compare_exchange-ne0.false
    c.list_slot.result c.list_slot.ensures
    c.slot_mut.result.now c.slot_mut.ensures.value

pub answered_alone-requires-2 : goal.answered_alone-requires-2
answered_alone-requires-2 g c = (
  c.args.token.now.me.0,
  list_taken c.requires.seat.mine
      c.args.page c.args.oldest c.requires.asks g.L.Sectors.seen g.D.Sectors.seen c.compare_exchange.new.seat
      c.compare_exchange.ensures.0 c.compare_exchange.result c.compare_exchange.ensures.2
      c.if-compare_exchange-ne0.false
      c.list_slot.result c.list_slot.ensures c.slot_mut.result.now c.slot_mut.ensures.value
      c.add_slot.new.slot c.add_slot.ensures,
)

pub returns : goal.returns
returns g c =
    op_played c.requires.seat c.answered_alone-2.ensures.mine
    (c.answered_alone-2.ensures.played c.args.token.now.me.0 (list_taken c.requires.seat.mine c.args.page
    c.args.oldest c.requires.asks g.L.Sectors.seen g.D.Sectors.seen c.compare_exchange.new.seat
    c.compare_exchange.ensures.0 c.compare_exchange.result c.compare_exchange.ensures.2
    c.if-compare_exchange-ne0.false
    c.list_slot.result c.list_slot.ensures c.slot_mut.result.now c.slot_mut.ensures.value
    c.add_slot.new.slot c.add_slot.ensures))
