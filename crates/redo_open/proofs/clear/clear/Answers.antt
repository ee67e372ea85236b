-- One stage after the other.
use Rattle.std.proofs.lemmas.Result.{err_from_is_err_and}
use Rattle.redo_open.proofs.Clears.{clear_both, clear_failed}
use Rattle.redo_open.proofs.Puts.{puts_then}
use Rattle.redo_open.proofs.clear.clear.Goals as goal

pub returns-in_err-clear_tails-clause-step : goal.returns-in_err-clear_tails-clause-step
returns-in_err-clear_tails-clause-step g c =
    let step = clear_failed c.args.layout.now c.args.ckpt c.args.start c.args.tail (g.L.Sectors.seen c.args.log.now) c.in_err-clear_tails.field-0.0 (g.L.Sectors.seen c.clear_tails.new.log)
    c.in_err-clear_tails.ensures.step in
    let p = err_from_is_err_and c.from_residual.result c.from_residual.ensures.1 in rw (p.1, p.2) step

pub returns-clause-step : goal.returns-clause-step
returns-clause-step g c =
    clear_both c.args.layout.now c.args.ckpt c.args.start c.args.tail (g.L.Sectors.seen c.args.log.now) (g.L.Sectors.seen c.clear_tails.new.log) c.in_ok-clear_tails.field-0
    c.clear_past.result (g.L.Sectors.seen c.clear_past.new.log) c.in_ok-clear_tails.ensures.step c.clear_past.ensures.step

pub returns-clause-calls : goal.returns-clause-calls
returns-clause-calls g c = puts_then c.in_ok-clear_tails.ensures.calls c.clear_past.ensures.calls
