use Rattle.std.proofs.Common.{ap, arith, ◌-◌}
use Rattle.std.specs.Prelude.{slice_index}
use Rattle.redo_rule.proofs.PutLanes.{left_here, put_here, put_long, put_same}
use Rattle.redo_rule.proofs.reading.put_word.Goals as goal
use Rattle.redo_rule.proofs.reading.put_word.Goals.{else-place, else-place-via-else-place, else-place-via-then-place+else-place-bytes, then-place+then-place-bytes}

pub loop-lane-preserved : goal.loop-lane-preserved
loop-lane-preserved c =
    elim c.if-place.branch [
      | then-place+then-place-bytes w ↦ rw w.bytes-is (record {
        here = put_here c.args.bytes.now c.loop-lane.bytes c.args.number c.loop-lane.lane c.args.word (omega arith)
            c.loop-lane.invariant.long c.loop-lane.invariant.here c.loop-lane.invariant.same _ _ (omega arith)
            (omega arith) (ap (λ l. slice_index l c.loop-lane.lane) c.to_le_bytes-lanes.ensures);
        same = put_same c.args.bytes.now c.loop-lane.bytes c.args.number c.loop-lane.lane c.args.word (omega arith)
            c.loop-lane.invariant.long c.loop-lane.invariant.here c.loop-lane.invariant.same _ _ (omega arith)
            (omega arith) (ap (λ l. slice_index l c.loop-lane.lane) c.to_le_bytes-lanes.ensures);
        long = put_long c.args.bytes.now c.loop-lane.bytes c.args.number c.loop-lane.lane c.args.word (omega arith)
            c.loop-lane.invariant.long c.loop-lane.invariant.here c.loop-lane.invariant.same _ _ (omega arith)
            (omega arith) (ap (λ l. slice_index l c.loop-lane.lane) c.to_le_bytes-lanes.ensures);
      })
      | else-place w ↦ rw w.bytes-is (record {
        here = left_here c.args.bytes.now c.loop-lane.bytes c.args.number c.loop-lane.lane c.args.word (omega arith)
            c.loop-lane.invariant.long c.loop-lane.invariant.here c.loop-lane.invariant.same (λ i there is.
            elim w.else-place.branch [
              | else-place-via-then-place+else-place-bytes v ↦ omega arith
              | else-place-via-else-place v ↦ omega arith
            ]);
        same = c.loop-lane.invariant.same;
        long = c.loop-lane.invariant.long;
      })
    ]
