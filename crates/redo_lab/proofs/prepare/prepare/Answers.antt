-- Both devices are prepared for a run.
use Rattle.redo_memdisk.proofs.Behind.{keeps-behind}
use Rattle.redo_lab.proofs.Told.{still-equal}
use Rattle.std.proofs.Common.{◌≤◌, Err, refl, ◌∙◌, arith, ◌≢◌, ◌≡◌, None}
use Rattle.model_log.specs.declared.layout.TheConstants.{HEADER_BYTES}
use Rattle.redo_lab.proofs.Alone.{alone-behind}
use Rattle.redo_lab.proofs.Entered.{calls-entry, format-entries}
use Rattle.redo_lab.proofs.Formats.{format-fails, formats-both}
use Rattle.redo_lab.proofs.Prepared.{kept-no-store, prepared-formatted, prepared-in-use, read-first, unprepared-formatted, unprepared-read, unprepared-small}
use Rattle.redo_lab.specs.Call.{guarded, call_on}
use Rattle.redo_lab.proofs.prepare.prepare.Goals as goal

pub returns-in-Ok-clause-prepares : goal.returns-in-Ok-clause-prepares
returns-in-Ok-clause-prepares g c = λ handed.
    let header : HEADER_BYTES ≤ (g.L.Sectors.seen c.args.log.now.inner).size = omega (arith, c.len.ensures.size, c.if-len-lt-HEADER_BYTES.false) in
    let first = read-first g.D.Sectors.seen c.args.store.now c.requires.log_fresh c.requires.data_fresh c.in-Ok-true.ensures.calls in
    prepared-formatted _ (guarded g.L.Sectors.seen c.args.log.now.inner c.is_unused.new.log) (guarded g.D.Sectors.seen c.args.store.now.inner c.args.store.now) c.in-Ok.field-0 header
    first.unarmed refl refl (λ on. still-equal _ _ first.log_kept
    ((keeps-behind g.L.Sectors.seen g.L.Sectors.gives c.is_unused.new.log c.format.new.log c.in-Ok.ensures.calls.log.calls c.in-Ok.ensures.calls.log.made).told on))
    (rw c.in-Ok-true.field-0-test at c.in-Ok-true.ensures.unused)
    (formats-both g.L.Sectors.seen g.L.Sectors.gives g.D.Sectors.seen g.D.Sectors.gives c.args.log.now.inner c.args.store.now.inner first.unarmed c.in-Ok.field-0 c.in-Ok.ensures.calls)
    (rw c.default_shape.ensures.shape at c.in-Ok.ensures.lengths) (rw c.default_shape.ensures.shape at c.in-Ok.ensures.formatted)

pub returns-in-Err-format-clause-prepares : goal.returns-in-Err-format-clause-prepares
returns-in-Err-format-clause-prepares g c = λ handed command asked script running.
    let header : HEADER_BYTES ≤ (g.L.Sectors.seen c.args.log.now.inner).size = omega (arith, c.len.ensures.size, c.if-len-lt-HEADER_BYTES.false) in
    let first = read-first g.D.Sectors.seen c.args.store.now c.requires.log_fresh c.requires.data_fresh c.in-Ok-true.ensures.calls in
    let log_calls = c.in-Err-format.ensures.called.log_calls in
    let data_calls = c.in-Err-format.ensures.called.data_calls in
    let log_same : (g.L.Sectors.seen c.format.new.log.inner).tells ≢ None → (g.L.Sectors.seen c.is_unused.new.log.inner).tells ≡ (g.L.Sectors.seen c.args.log.now.inner).tells =
    λ on. still-equal _ _ first.log_kept ((keeps-behind g.L.Sectors.seen g.L.Sectors.gives c.is_unused.new.log c.format.new.log log_calls.calls log_calls.made).told on) in
    let data_same : (g.D.Sectors.seen c.format.new.data_device.inner).tells ≢ None → (g.D.Sectors.seen c.args.store.now.inner).tells ≡ (g.D.Sectors.seen c.args.store.now.inner).tells =
    λ on. refl in
    format-fails g.L.Sectors.seen g.L.Sectors.gives g.D.Sectors.seen g.D.Sectors.gives c.args.log.now.inner c.args.store.now.inner first.unarmed
    (unprepared-formatted _ command asked script running c.laws.ensures header (λ same. rw (same.0, same.1) first) _ log_same (rw c.in-Ok-true.field-0-test at c.in-Ok-true.ensures.unused)
    (kept-no-store (call_on g.L.Sectors.seen g.L.Sectors.gives g.D.Sectors.seen g.D.Sectors.gives handed c.args.log.now.inner c.args.store.now.inner c.format.new.log c.format.new.data_device)
    _ _ _ log_same data_same (rw c.default_shape.ensures.shape at c.in-Err-format.ensures.keeps)))
    c.in-Err-format.fault c.in-Err-format.ensures.calls (rw c.default_shape.ensures.shape at c.in-Err-format.ensures.cause)

pub returns-in-Ok-false-clause-prepares : goal.returns-in-Ok-false-clause-prepares
returns-in-Ok-false-clause-prepares g c = λ handed.
    let header : HEADER_BYTES ≤ (g.L.Sectors.seen c.args.log.now.inner).size = omega (arith, c.len.ensures.size, c.if-len-lt-HEADER_BYTES.false) in
    prepared-in-use _ header (read-first g.D.Sectors.seen c.args.store.now c.requires.log_fresh c.requires.data_fresh c.in-Ok-false.ensures.calls)
    (rw c.in-Ok-false.field-0-test at c.in-Ok-false.ensures.unused)

pub returns-in-Err-clause-prepares : goal.returns-in-Err-clause-prepares
returns-in-Err-clause-prepares g c = λ handed command asked script running.
    rw c.log_fault.ensures (unprepared-read _ command asked script running c.laws.ensures c.in-Err.error
    (read-first g.D.Sectors.seen c.args.store.now c.requires.log_fresh c.requires.data_fresh c.in-Err.ensures.calls))

pub returns-then-len-lt-HEADER_BYTES-clause-prepares : goal.returns-then-len-lt-HEADER_BYTES-clause-prepares
returns-then-len-lt-HEADER_BYTES-clause-prepares g c = λ handed command asked script running.
    unprepared-small _ command asked script running c.laws.ensures (
      alone-behind g.L.Sectors.seen c.args.log.now.inner c.args.log.now c.args.log.now refl c.requires.log_fresh refl,
      alone-behind g.D.Sectors.seen c.args.store.now.inner c.args.store.now c.args.store.now refl c.requires.data_fresh refl,
    )
    (omega (arith, c.len.ensures.size, c.if-len-lt-HEADER_BYTES.true)) c.len.ensures.told

pub returns-then-len-lt-HEADER_BYTES-clause-entered : goal.returns-then-len-lt-HEADER_BYTES-clause-entered
returns-then-len-lt-HEADER_BYTES-clause-entered g c = record { log_device = refl; data_device = refl }

pub returns-in-Ok-clause-entered : goal.returns-in-Ok-clause-entered
returns-in-Ok-clause-entered g c = record {
  log_device = calls-entry c.in-Ok.ensures.calls.log ∙ calls-entry c.in-Ok-true.ensures.calls;
  data_device = calls-entry c.in-Ok.ensures.calls.data_device;
}

pub returns-in-Err-format-clause-entered : goal.returns-in-Err-format-clause-entered
returns-in-Err-format-clause-entered g c =
    let formats = format-entries g.L.Sectors.seen g.L.Sectors.gives g.D.Sectors.seen g.D.Sectors.gives _ _ _ _ (Err c.in-Err-format.fault) c.in-Err-format.ensures.calls in
    record { log_device = formats.log_device ∙ calls-entry c.in-Ok-true.ensures.calls; data_device = formats.data_device }

pub returns-in-Ok-false-clause-entered : goal.returns-in-Ok-false-clause-entered
returns-in-Ok-false-clause-entered g c = record { log_device = calls-entry c.in-Ok-false.ensures.calls; data_device = refl }

pub returns-in-Err-clause-entered : goal.returns-in-Err-clause-entered
returns-in-Err-clause-entered g c = record { log_device = calls-entry c.in-Err.ensures.calls; data_device = refl }
