-- The header is put into the second block, and then into the first one.
use Rattle.std.proofs.Common.{arith}
use Rattle.std.proofs.lemmas.Result.{err_from_is_err_and}
use Rattle.redo_open.proofs.Puts.{put_served, puts_then}
use Rattle.redo_open.proofs.RunHeads.{first-ends, run-put, run-within, second-come, second-fails}
use Rattle.redo_open.proofs.enlarge.put_run_heads.Goals as goal

pub returns-in_err-put_head-clause-step : goal.returns-in_err-put_head-clause-step
returns-in_err-put_head-clause-step g c =
    let p = err_from_is_err_and c.from_residual.result c.from_residual.ensures.1 in
    let shape = c.args.shape.now in
    let old = g.L.Sectors.seen c.args.log.now in
    let new = g.L.Sectors.seen c.put_head.new.log in
    rw (p.1, p.2)
    (second-fails shape old c.in_err-put_head.field-0.0 new
    (run-put shape c.run_shape-run.result 2 old _ new c.run_shape-run.ensures.shape c.in_err-put_head.ensures.step))

pub returns-in_err-put_head-clause-calls : goal.returns-in_err-put_head-clause-calls
returns-in_err-put_head-clause-calls g c =
    let p = err_from_is_err_and c.from_residual.result c.from_residual.ensures.1 in
    rw (p.1, p.2) (put_served (run-within c.run_shape-run.result 2 (omega arith)) c.in_err-put_head.ensures.calls)

pub returns-clause-step : goal.returns-clause-step
returns-clause-step g c =
    let shape = c.args.shape.now in
    let old = g.L.Sectors.seen c.args.log.now in
    let mid = g.L.Sectors.seen c.put_head.new.log in
    let new = g.L.Sectors.seen c.put_head-2.new.log in
    first-ends shape old mid c.put_head-2.result new
    (second-come shape old tt mid
    (run-put shape c.run_shape-run.result 2 old _ mid c.run_shape-run.ensures.shape c.in_ok-put_head.ensures.step))
    (run-put shape c.run_shape-run.result 0 mid c.put_head-2.result new c.run_shape-run.ensures.shape
    c.put_head-2.ensures.step)

pub returns-clause-calls : goal.returns-clause-calls
returns-clause-calls g c =
    puts_then (put_served (run-within c.run_shape-run.result 2 (omega arith)) c.in_ok-put_head.ensures.calls)
    (put_served (run-within c.run_shape-run.result 0 (omega arith)) c.put_head-2.ensures.calls)
