use Rattle.redo_ownrule.proofs.OwnDevice.{is_log, lends_got, take_ok, took_free, took_held}
use Rattle.redo_ownrule.proofs.OwnPlaying.{op_played}
use Rattle.redo_ownrule.proofs.device.take_device.Goals as goal

pub compare_exchange-requires : goal.compare_exchange-requires
compare_exchange-requires g c = take_ok c.requires.seat.mine c.requires.asks g.L.Sectors.seen g.L.Sectors.gives
    g.D.Sectors.seen g.D.Sectors.gives c.args.table.now.key

pub answered_alone-requires : goal.answered_alone-requires
answered_alone-requires g c = (
  c.args.token.now.me.0,
  took_held c.requires.seat.mine c.requires.asks g.L.Sectors.seen g.D.Sectors.seen c.compare_exchange.new.seat
      c.compare_exchange.ensures.0 c.compare_exchange.result c.compare_exchange.ensures.2
      c.if-compare_exchange-ne0.true,
)

pub returns-then-compare_exchange-ne0 : goal.returns-then-compare_exchange-ne0
returns-then-compare_exchange-ne0 g c =
    op_played c.requires.seat c.answered_alone.ensures.mine
    (c.answered_alone.ensures.played c.args.token.now.me.0
    (took_held c.requires.seat.mine c.requires.asks
    g.L.Sectors.seen g.D.Sectors.seen c.compare_exchange.new.seat c.compare_exchange.ensures.0
    c.compare_exchange.result
    c.compare_exchange.ensures.2 c.if-compare_exchange-ne0.true))

pub slot_mut-requires : goal.slot_mut-requires
slot_mut-requires g c = lends_got c.requires.seat.mine c.requires.asks g.L.Sectors.seen g.D.Sectors.seen
    c.compare_exchange.new.seat c.compare_exchange.ensures.0
    c.compare_exchange.result c.compare_exchange.ensures.2 c.if-compare_exchange-ne0.false

pub taken_answer-answer-requires : goal.taken_answer-answer-requires
taken_answer-answer-requires g c = is_log c.requires.seat.mine c.requires.asks g.L.Sectors.seen g.D.Sectors.seen
    c.compare_exchange.new.seat c.compare_exchange.ensures.0
    c.compare_exchange.result c.compare_exchange.ensures.2 c.if-compare_exchange-ne0.false c.slot_mut.result.now
    c.slot_mut.ensures.value

pub answered_at-requires : goal.answered_at-requires
answered_at-requires g c = (
  c.args.token.now.me.0,
  took_free c.requires.seat.mine c.requires.asks g.L.Sectors.seen g.D.Sectors.seen c.compare_exchange.new.seat
      c.compare_exchange.ensures.0 c.compare_exchange.result c.compare_exchange.ensures.2
      c.if-compare_exchange-ne0.false
      c.slot_mut.result.now c.slot_mut.ensures.value c.taken_answer-answer.result c.taken_answer-answer.ensures,
)

pub returns : goal.returns
returns g c =
    op_played c.requires.seat c.answered_at.ensures.mine
    (c.answered_at.ensures.played c.args.token.now.me.0 (took_free c.requires.seat.mine c.requires.asks
    g.L.Sectors.seen g.D.Sectors.seen
    c.compare_exchange.new.seat c.compare_exchange.ensures.0 c.compare_exchange.result c.compare_exchange.ensures.2
    c.if-compare_exchange-ne0.false c.slot_mut.result.now c.slot_mut.ensures.value c.taken_answer-answer.result
    c.taken_answer-answer.ensures))
