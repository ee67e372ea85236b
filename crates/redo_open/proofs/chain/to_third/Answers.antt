-- The slots and places, and then the headers, of a store that doesn't have those of a run.
use Rattle.std.proofs.Common.{◌≡◌, ◌∙◌, Ok, Err, sym, arith}
use Rattle.model_base.specs.{IsEarly, run_shape}
use Rattle.model_store.specs.{Reading}
use Rattle.redo_open.proofs.Causes.{data-cause, data-not_log, data-risen, log-cause, log-not_data, log-risen}
use Rattle.redo_open.proofs.Inside.{puts_of, within-longer}
use Rattle.redo_open.proofs.Puts.{put_weaker}
use Rattle.redo_open.proofs.Runs.{enlarging-both, fresh-unopened, headed-both, heading-both, heading-unopened, stored-keeps, ready-already}
use Rattle.redo_open.proofs.Sizes.{equal-run, other-run_early}
use Rattle.redo_recover.specs.{reading_of}
use Rattle.redo_open.proofs.chain.to_third.Goals as goal

pub returns-then-eq-clause-step : goal.returns-then-eq-clause-step
returns-then-eq-clause-step g c =
    let opened : Reading = reading_of c.args.recovered.now in
    let log = g.L.Sectors.seen c.args.log.now in
    let data_device = g.D.Sectors.seen c.args.data_device.now in
    let same : opened.shape ≡ run_shape opened.shape = equal-run opened.shape c.run_shape.result
    c.run_shape.ensures.shape (sym c.eq.ensures ∙ c.if-eq.true) in
    record {
      keeps = λ log_bytes data_bytes from. stored-keeps opened log data_device log_bytes data_bytes from;
      ok = λ log_bytes data_bytes from. ready-already opened log data_device log_bytes data_bytes same from;
      unmoved = λ log_bytes data_bytes from. tt;
      fault = tt;
      log_failed = λ failed. absurd cc;
      data_failed = λ failed. absurd cc;
    }

pub returns-in-Err-clause-step : goal.returns-in-Err-clause-step
returns-in-Err-clause-step g c =
    let opened : Reading = reading_of c.args.recovered.now in
    let log = g.L.Sectors.seen c.args.log.now in
    let data_old = g.D.Sectors.seen c.args.data_device.now in
    let data_new = g.D.Sectors.seen c.enlarge.new.device in
    let early : IsEarly opened.shape = other-run_early opened.shape c.run_shape.result c.requires.limits
    c.run_shape.ensures.shape (sym c.eq.ensures ∙ c.if-eq.false) in
    record {
      keeps = λ log_bytes data_bytes from. enlarging-both opened log data_old log_bytes data_bytes opened.pages
          (Err c.in-Err.error) data_new from c.in-Err.ensures.step;
      ok = λ log_bytes data_bytes from. tt;
      unmoved = λ log_bytes data_bytes from. fresh-unopened opened log.tells early from.log_ready;
      fault = data-cause c.in-Err.error c.data_fault.result c.data_fault.ensures;
      log_failed = λ failed. data-not_log c.in-Err.error c.data_fault.result c.data_fault.ensures failed;
      data_failed = data-risen data_old.faults data_new.faults c.in-Err.error c.data_fault.result c.data_fault.ensures
          c.in-Err.ensures.step.cause;
    }

pub returns-in-Ok-put_run_heads-clause-step : goal.returns-in-Ok-put_run_heads-clause-step
returns-in-Ok-put_run_heads-clause-step g c =
    let opened : Reading = reading_of c.args.recovered.now in
    let log_old = g.L.Sectors.seen c.args.log.now in
    let log_new = g.L.Sectors.seen c.put_run_heads.new.log in
    let data_old = g.D.Sectors.seen c.args.data_device.now in
    let data_new = g.D.Sectors.seen c.enlarge.new.device in
    record {
      keeps = λ log_bytes data_bytes from. heading-both opened log_old data_old log_bytes data_bytes tt data_new
          (Ok tt) log_new c.requires.limits from c.in-Ok.ensures.step
          c.in-Ok-put_run_heads.ensures.step;
      ok = λ log_bytes data_bytes from. headed-both opened log_old data_old log_bytes data_bytes tt tt data_new log_new
          c.requires.limits from c.in-Ok.ensures.step
          c.in-Ok-put_run_heads.ensures.step;
      unmoved = λ log_bytes data_bytes from. tt;
      fault = tt;
      log_failed = λ failed. absurd cc;
      data_failed = λ failed. absurd cc;
    }

pub returns-in-Ok-put_run_heads-clause-inside : goal.returns-in-Ok-put_run_heads-clause-inside
returns-in-Ok-put_run_heads-clause-inside g c = record {
  log = puts_of (put_weaker (within-longer 2048 _ (omega arith)) c.in-Ok-put_run_heads.ensures.calls);
  data_device = puts_of c.in-Ok.ensures.calls;
}

pub returns-in-Err-put_run_heads-clause-step : goal.returns-in-Err-put_run_heads-clause-step
returns-in-Err-put_run_heads-clause-step g c =
    let opened : Reading = reading_of c.args.recovered.now in
    let log_old = g.L.Sectors.seen c.args.log.now in
    let log_new = g.L.Sectors.seen c.put_run_heads.new.log in
    let data_old = g.D.Sectors.seen c.args.data_device.now in
    let data_new = g.D.Sectors.seen c.enlarge.new.device in
    let early : IsEarly opened.shape = other-run_early opened.shape c.run_shape.result c.requires.limits
    c.run_shape.ensures.shape (sym c.eq.ensures ∙ c.if-eq.false) in
    let step = c.in-Err-put_run_heads.ensures.step in
    record {
      keeps = λ log_bytes data_bytes from. heading-both opened log_old data_old log_bytes data_bytes tt data_new
          (Err c.in-Err-put_run_heads.error) log_new c.requires.limits from
          c.in-Ok.ensures.step step;
      ok = λ log_bytes data_bytes from. tt;
      unmoved = λ log_bytes data_bytes from. heading-unopened opened log_old c.in-Err-put_run_heads.error log_new
          c.requires.limits early from.log_ready step;
      fault = log-cause c.in-Err-put_run_heads.error c.log_fault.result c.log_fault.ensures;
      log_failed = log-risen log_old.faults log_new.faults c.in-Err-put_run_heads.error c.log_fault.result
          c.log_fault.ensures step.cause;
      data_failed = λ failed. log-not_data c.in-Err-put_run_heads.error c.log_fault.result c.log_fault.ensures failed;
    }

pub returns-in-Err-put_run_heads-clause-inside : goal.returns-in-Err-put_run_heads-clause-inside
returns-in-Err-put_run_heads-clause-inside g c = record {
  log = puts_of (put_weaker (within-longer 2048 _ (omega arith)) c.in-Err-put_run_heads.ensures.calls);
  data_device = puts_of c.in-Ok.ensures.calls;
}
