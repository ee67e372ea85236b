use Rattle.redo_rule.proofs.Stepping.{take_ok}
use Rattle.redo_rule.proofs.Taking.{busy_fits, busy_leaves, log_fits, log_leaves, log_lent, log_there}
use Rattle.redo_rule.proofs.device.take_device.Goals as goal

pub compare_exchange-requires : goal.compare_exchange-requires
compare_exchange-requires g c = take_ok c.requires.seat.mine g.L.Sectors.seen g.L.Sectors.gives g.D.Sectors.seen
    g.D.Sectors.gives c.args.table.now.key c.requires.asks

pub took-requires : goal.took-requires
took-requires g c =
    let may = busy_fits c.args.actor.now c.requires g.L.Sectors.seen g.D.Sectors.seen c.compare_exchange.new.seat
    c.compare_exchange.result c.compare_exchange.ensures c.if-compare_exchange-ne0.true in
    record { fits = may.0; mark = may.1 }

pub returns-then-compare_exchange-ne0 : goal.returns-then-compare_exchange-ne0
returns-then-compare_exchange-ne0 g c = busy_leaves c.args.actor.now c.requires g.L.Sectors.seen g.D.Sectors.seen
    c.compare_exchange.new.seat c.compare_exchange.result c.compare_exchange.ensures c.if-compare_exchange-ne0.true
    g.R.Receiver.stands_for c.took.result c.took.new.self c.took.ensures

pub slot_mut-requires : goal.slot_mut-requires
slot_mut-requires g c = log_lent c.args.actor.now c.requires g.L.Sectors.seen g.D.Sectors.seen
    c.compare_exchange.new.seat
    c.compare_exchange.result c.compare_exchange.ensures c.if-compare_exchange-ne0.false

pub taken_answer-answer-requires : goal.taken_answer-answer-requires
taken_answer-answer-requires g c = log_there c.args.actor.now c.requires g.L.Sectors.seen g.D.Sectors.seen
    c.compare_exchange.new.seat c.compare_exchange.result c.compare_exchange.ensures c.if-compare_exchange-ne0.false
    c.slot_mut.result.now c.slot_mut.ensures.value

pub took-requires-2 : goal.took-requires-2
took-requires-2 g c =
    let may = log_fits c.args.actor.now c.requires g.L.Sectors.seen g.D.Sectors.seen c.compare_exchange.new.seat
    c.compare_exchange.result c.compare_exchange.ensures c.if-compare_exchange-ne0.false c.slot_mut.result.now
    c.slot_mut.ensures.value c.taken_answer-answer.result c.taken_answer-answer.ensures in
    record { fits = may.0; mark = may.1 }

pub returns : goal.returns
returns g c = log_leaves c.args.actor.now c.requires g.L.Sectors.seen g.D.Sectors.seen c.compare_exchange.new.seat
    c.compare_exchange.result c.compare_exchange.ensures c.if-compare_exchange-ne0.false c.slot_mut.result.now
    c.slot_mut.ensures.value c.taken_answer-answer.result c.taken_answer-answer.ensures g.R.Receiver.stands_for
    c.took-2.result c.took-2.new.self c.took-2.ensures
