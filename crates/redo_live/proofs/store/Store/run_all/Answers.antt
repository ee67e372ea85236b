use Rattle.std.proofs.Common.{arith, get_or, length, length-set, refl, ◌<◌, ◌∙◌}
use Rattle.redo_live.proofs.Workers.{at_place, past, set_ended, set_still}
use Rattle.redo_live.proofs.store.Store.run_all.Goals as goal

pub loop-worker-init : goal.loop-worker-init
loop-worker-init g c = record {
  count = refl;
  still = λ first are. are;
  ended = λ i w low at. absurd (omega arith);
}

pub run-requires : goal.run-requires
run-requires g c =
    let test = c.loop-worker-test.true in
    let count = c.loop-worker.invariant.count in
    let low : c.loop-worker.worker-index < length c.loop-worker.workers = omega arith in
    let there = at_place c.loop-worker.workers c.loop-worker.worker-index c.worker-item.result low c.worker-item.is in
    (c.loop-worker.invariant.still c.requires.0 c.requires.1 c.loop-worker.worker-index
    (get_or c.loop-worker.workers c.loop-worker.worker-index c.worker-item.result) there).0

pub loop-worker-preserved : goal.loop-worker-preserved
loop-worker-preserved g c =
    let test = c.loop-worker-test.true in
    let count = c.loop-worker.invariant.count in
    let low : c.loop-worker.worker-index < length c.loop-worker.workers = omega arith in
    let there = at_place c.loop-worker.workers c.loop-worker.worker-index c.worker-item.result low c.worker-item.is in
    record {
      count = length-set c.loop-worker.workers c.loop-worker.worker-index c.run.new.self ∙ count;
      still = λ first are. set_still c.args.self.now c.loop-worker.workers c.loop-worker.worker-index
          (get_or c.loop-worker.workers c.loop-worker.worker-index c.worker-item.result) c.run.new.self there first
          (c.loop-worker.invariant.still first are) c.run.ensures.mine c.run.ensures.same;
      ended = set_ended c.args.self.now c.loop-worker.workers c.loop-worker.worker-index
          (get_or c.loop-worker.workers c.loop-worker.worker-index c.worker-item.result) c.run.new.self there
          c.loop-worker.invariant.ended c.run.ensures.at_end;
    }

pub returns-clause-ended : goal.returns-clause-ended
returns-clause-ended g c i w at =
    let low = past c.loop-worker.workers i w at in
    let stop = c.loop-worker-test.false in
    let count = c.loop-worker.invariant.count in
    c.loop-worker.invariant.ended i w (omega arith) at
