use Rattle.std.proofs.Common.{List, ap, arith, sym, ◌∙◌}
use Rattle.model_core.specs.{CellWrite, put_lanes}
unfoldable use Rattle.model_core.specs.Lanes.{lanes}
use Rattle.redo_useractor.proofs.WordCells.{no_lane, put_none, put_some}
use Rattle.redo_useractor.proofs.words.with_written.Goals as goal
use Rattle.redo_useractor.proofs.words.with_written.Goals.{in-Some, in-None}

pub loop-lane-init : goal.loop-lane-init
unfolding lanes
loop-lane-init c = c.to_le_bytes-lanes.ensures ∙ sym (ap (λ (xs : List CellWrite). put_lanes xs (lanes 0 8 c.args.old)) (no_lane c.args.user_bytes c.args.page c.args.recs.now c.args.word))

pub loop-lane-preserved : goal.loop-lane-preserved
loop-lane-preserved c = elim c.match-cell_byte.branch [
  | in-Some w ↦ rw w.lanes-is (put_some c.args.user_bytes c.args.page c.args.recs.now c.args.word c.loop-lane.lane w.in-Some.byte c.loop-lane.lanes (lanes 0 8 c.args.old) (omega arith) w.in-Some.ensures c.loop-lane.invariant)
  | in-None w ↦ rw w.lanes-is (put_none c.args.user_bytes c.args.page c.args.recs.now c.args.word c.loop-lane.lane c.loop-lane.lanes (lanes 0 8 c.args.old) w.in-None.ensures c.loop-lane.invariant)
]
