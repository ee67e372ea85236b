use Rattle.std.proofs.Common.{ap, arith, length, sym, ◌∙◌}
use Rattle.redo_useractor.proofs.WordCells.{counted_none, counted_some, no_lane}
use Rattle.redo_useractor.proofs.words.count_in.Goals as goal
use Rattle.redo_useractor.proofs.words.count_in.Goals.{then-is_some, else-is_some}

pub loop-lane-init : goal.loop-lane-init
loop-lane-init c = record { counted = ap length (sym (no_lane c.args.user_bytes c.args.page c.args.recs.now c.args.word)); few = omega arith }

pub loop-lane-preserved : goal.loop-lane-preserved
loop-lane-preserved c = elim c.if-is_some.branch [
  | then-is_some w ↦ rw w.count-is (record {
    counted = counted_some c.args.user_bytes c.args.page c.args.recs.now c.args.word c.loop-lane.lane c.loop-lane.count c.cell_byte.result c.cell_byte.ensures (sym c.is_some.ensures ∙ w.if-is_some.true) c.loop-lane.invariant.counted;
    few = omega arith;
  })
  | else-is_some w ↦ rw w.count-is (record {
    counted = counted_none c.args.user_bytes c.args.page c.args.recs.now c.args.word c.loop-lane.lane c.loop-lane.count c.cell_byte.result c.cell_byte.ensures (sym c.is_some.ensures ∙ w.if-is_some.false) c.loop-lane.invariant.counted;
    few = omega arith;
  })
]
