use Rattle.std.proofs.Common.{◌∙◌}
use Rattle.redo_threads.proofs.Going.{may_still, with_asked, with_trans}
use Rattle.redo_threads.proofs.work.stint.Goals as goal

pub returns-then-is_at_end : goal.returns-then-is_at_end
returns-then-is_at_end g c = with_asked g.F.Receiver.stands_for c.args.table.now.table_id g.A.Sectors.seen
    g.A.Sectors.gives c.args.seat.now
    c.ask-op.new.seat c.args.player.now c.args.archive.now c.ask-op.ensures.seat c.ask-op.ensures.same

pub loop-steps-init : goal.loop-steps-init
loop-steps-init g c = record {
  goes_on = with_asked g.F.Receiver.stands_for c.args.table.now.table_id g.A.Sectors.seen g.A.Sectors.gives
      c.args.seat.now c.ask-op.new.seat
      c.args.player.now c.args.archive.now c.ask-op.ensures.seat c.ask-op.ensures.same;
  asks = c.ask-op.ensures.asks;
}

pub returns-in-Idle : goal.returns-in-Idle
returns-in-Idle g c = with_trans g.F.Receiver.stands_for c.args.table.now.table_id g.A.Sectors.seen g.A.Sectors.gives
    c.args.seat.now c.loop-steps.seat
    c.turn-step.new.seat c.args.player.now c.loop-steps.player c.turn-step.new.player c.args.archive.now c.loop-steps.archive c.turn-step.new.archive c.loop-steps.invariant.goes_on c.turn-step.ensures.goes_on

pub returns-in-Ended : goal.returns-in-Ended
returns-in-Ended g c = with_trans g.F.Receiver.stands_for c.args.table.now.table_id g.A.Sectors.seen g.A.Sectors.gives
    c.args.seat.now c.loop-steps.seat
    c.turn-step.new.seat c.args.player.now c.loop-steps.player c.turn-step.new.player c.args.archive.now c.loop-steps.archive c.turn-step.new.archive c.loop-steps.invariant.goes_on c.turn-step.ensures.goes_on

pub loop-steps-preserved : goal.loop-steps-preserved
loop-steps-preserved g c = record {
  goes_on = with_trans g.F.Receiver.stands_for c.args.table.now.table_id g.A.Sectors.seen g.A.Sectors.gives
      c.args.seat.now c.loop-steps.seat
      c.turn-step.new.seat c.args.player.now c.loop-steps.player c.turn-step.new.player c.args.archive.now c.loop-steps.archive c.turn-step.new.archive c.loop-steps.invariant.goes_on c.turn-step.ensures.goes_on;
  asks = c.turn-step.ensures.asks;
}

pub turn-step-requires-clause-archive : goal.turn-step-requires-clause-archive
turn-step-requires-clause-archive g c κs within =
    may_still g.F.Receiver.stands_for c.args.table.now.table_id g.A.Sectors.seen g.A.Sectors.gives c.args.seat.now
    c.loop-steps.seat c.args.player.now c.loop-steps.player c.args.archive.now c.loop-steps.archive c.requires.archive
    c.loop-steps.invariant.goes_on

pub turn-step-requires-clause-layout : goal.turn-step-requires-clause-layout
turn-step-requires-clause-layout g c κs within =
    c.loop-steps.invariant.goes_on.player.same.layout ∙ c.requires.layout
