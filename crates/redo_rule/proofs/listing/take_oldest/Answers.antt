use Rattle.std.proofs.Common.{ap, refl, suc}
use Rattle.model_core.specs.declared.ops.Answer.TheVariants as answer
use Rattle.redo_rule.proofs.Stepping.{oldest_below, take_oldest_ok}
use Rattle.redo_rule.proofs.Taking.{held_fits, list_called, list_fits, list_held, list_leaves, list_lent}
use Rattle.redo_rule.proofs.listing.take_oldest.Goals as goal

pub compare_exchange-requires : goal.compare_exchange-requires
compare_exchange-requires g c = take_oldest_ok c.requires.seat.mine g.L.Sectors.seen g.L.Sectors.gives g.D.Sectors.seen
    g.D.Sectors.gives c.args.table.now.key c.args.list c.list_turn.result c.requires.asks c.list_turn.ensures
    (oldest_below c.requires.seat.mine c.args.list c.requires.asks)

pub took-requires : goal.took-requires
took-requires g c =
    let may = held_fits c.args.actor.now c.requires g.L.Sectors.seen g.D.Sectors.seen (suc c.args.list) refl
    c.compare_exchange.new.seat c.compare_exchange.result c.compare_exchange.ensures c.if-compare_exchange-ne0.true in
    record { fits = may.0; mark = may.1 }

pub returns-then-compare_exchange-ne0 : goal.returns-then-compare_exchange-ne0
returns-then-compare_exchange-ne0 g c = list_held c.args.actor.now c.requires g.L.Sectors.seen g.D.Sectors.seen
    (suc c.args.list) refl c.compare_exchange.new.seat c.compare_exchange.result c.compare_exchange.ensures
    c.if-compare_exchange-ne0.true g.R.Receiver.stands_for c.took.result c.took.new.self c.took.ensures

pub slot_mut-requires : goal.slot_mut-requires
slot_mut-requires g c = list_lent c.args.actor.now c.requires g.L.Sectors.seen g.D.Sectors.seen c.list_slot.result
    c.list_slot.ensures c.compare_exchange.new.seat c.compare_exchange.result c.compare_exchange.ensures
    c.if-compare_exchange-ne0.false

pub oldest_slot-oldest-requires : goal.oldest_slot-oldest-requires
oldest_slot-oldest-requires g c =
    let p = list_called c.args.actor.now c.requires g.L.Sectors.seen g.D.Sectors.seen c.list_slot.result
    c.list_slot.ensures c.compare_exchange.new.seat c.compare_exchange.result c.compare_exchange.ensures
    c.if-compare_exchange-ne0.false
    c.slot_mut.result.now c.slot_mut.ensures.value in (p.0, p.1, tt)

pub took-requires-2 : goal.took-requires-2
took-requires-2 g c =
    let e = c.oldest_slot-oldest.ensures in
    let may = list_fits c.args.actor.now c.requires g.L.Sectors.seen g.D.Sectors.seen c.list_slot.result
    c.list_slot.ensures c.compare_exchange.new.seat c.compare_exchange.result c.compare_exchange.ensures
    c.if-compare_exchange-ne0.false c.slot_mut.result.now c.slot_mut.ensures.value e.0 e.1
    (answer.Taken c.oldest_slot-oldest.result) (ap answer.Taken e.2) in
    record { fits = may.0; mark = may.1 }

pub returns : goal.returns
returns g c =
    let e = c.oldest_slot-oldest.ensures in
    list_leaves c.args.actor.now c.requires g.L.Sectors.seen g.D.Sectors.seen c.list_slot.result
    c.list_slot.ensures c.compare_exchange.new.seat c.compare_exchange.result c.compare_exchange.ensures
    c.if-compare_exchange-ne0.false c.slot_mut.result.now c.slot_mut.ensures.value e.0 e.1
    (answer.Taken c.oldest_slot-oldest.result) (ap answer.Taken e.2) c.slot_mut.result.now e.1
    g.R.Receiver.stands_for c.took-2.result c.took-2.new.self c.took-2.ensures
