use Rattle.std.proofs.Common.{◌∙◌}
use Rattle.redo_threads.proofs.Going.{may_still, with_asked, with_trans}
use Rattle.redo_threads.proofs.work.work.Goals as goal

pub loop-init : goal.loop-init
loop-init g c = record {
  goes_on = with_asked g.F.Receiver.stands_for c.args.table.now.table_id g.A.Sectors.seen g.A.Sectors.gives
      c.args.seat.now c.ask-op.new.seat
      c.args.player.now c.args.archive.now c.ask-op.ensures.seat c.ask-op.ensures.same;
  asks = c.ask-op.ensures.asks;
}

pub loop-preserved : goal.loop-preserved
loop-preserved g c = record {
  goes_on = with_trans g.F.Receiver.stands_for c.args.table.now.table_id g.A.Sectors.seen g.A.Sectors.gives
      c.args.seat.now c.loop.seat
      c.turn-step.new.seat c.args.player.now c.loop.player c.turn-step.new.player c.args.archive.now c.loop.archive c.turn-step.new.archive c.loop.invariant.goes_on c.turn-step.ensures.goes_on;
  asks = c.turn-step.ensures.asks;
}

pub turn-step-requires-clause-archive : goal.turn-step-requires-clause-archive
turn-step-requires-clause-archive g c κs within =
    may_still g.F.Receiver.stands_for c.args.table.now.table_id g.A.Sectors.seen g.A.Sectors.gives c.args.seat.now
    c.loop.seat
    c.args.player.now c.loop.player c.args.archive.now c.loop.archive c.requires.archive c.loop.invariant.goes_on

pub turn-step-requires-clause-layout : goal.turn-step-requires-clause-layout
turn-step-requires-clause-layout g c κs within = c.loop.invariant.goes_on.player.same.layout ∙ c.requires.layout
