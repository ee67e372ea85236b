use Rattle.std.proofs.Common.{◌≢◌, ◌∙◌, ap, sym, subst, arith, rules}
use Rattle.std.proofs.lemmas.Result.{err_from_is_err_and}
use Rattle.model_log.specs.{newest_checkpoint}
use Rattle.model_log.specs.declared.layout.Layout.{Layout}
use Rattle.model_store.proofs.Heads.{checkpoint-bounds}
use Rattle.redo_disk.specs.{HasSize}
use Rattle.redo_disk.proofs.Told.{still-known}
use Rattle.redo_recover.specs.Devices.{HasCauseIn, reread, log_error}
use Rattle.redo_recover.specs.Recovery.{IsCaused}
use Rattle.redo_recover.specs.Start.{IsLengthFault}
use Rattle.redo_recover.specs.declared.fault.RecFault.{RecFault}
use Rattle.redo_recover.specs.declared.fault.RecFault.TheVariants.{DataDev}
use Rattle.redo_recover.proofs.Starting.{header-of, sized, head-cause, length-cause, checkpoint-cause, starts}
use Rattle.redo_recover.proofs.Unchanged.{log_fault-caused}
use Rattle.redo_recover.proofs.Only.{log-fault, log-one, log-own, log-short}
use Rattle.redo_recover.proofs.Owning.{apart-own, head-own, length-own, log-apart}
use Rattle.redo_recover.proofs.start.read_start.Goals as goal

pub returns-in-Err-clause-caused : goal.returns-in-Err-clause-caused
returns-in-Err-clause-caused g c =
    subst (IsCaused (reread (g.L.Sectors.seen c.args.log.now) (g.L.Sectors.seen c.read.new.self)) (g.D.Sectors.seen c.args.device.now)) (sym c.log_fault.ensures)
    (log_fault-caused _ _ c.in-Err.error)

pub returns-in_err-format-clause-caused : goal.returns-in_err-format-clause-caused
returns-in_err-format-clause-caused g c =
    let log = reread (g.L.Sectors.seen c.args.log.now) (g.L.Sectors.seen c.read.new.self) in
    let device = g.D.Sectors.seen c.args.device.now in
    let header = c.read.new.out in
    let of = header-of log.tells log.size header (still-known (g.L.Sectors.seen c.args.log.now).tells log.tells (HasSize log.size) c.in-Ok.ensures.step.same c.len-log_len.ensures.told) c.in-Ok.ensures.step.bytes in
    let fault = c.in_err-format.ensures.fault in
    let cause : HasCauseIn log.tells device.tells c.in_err-format.field-0.0 =
    head-cause log.tells device.tells log.size header c.in_err-format.field-0.0 of (omega arith) fault in
    search rules

pub returns-in_err-check_lengths-clause-caused : goal.returns-in_err-check_lengths-clause-caused
returns-in_err-check_lengths-clause-caused g c =
    let log = reread (g.L.Sectors.seen c.args.log.now) (g.L.Sectors.seen c.read.new.self) in
    let device = g.D.Sectors.seen c.args.device.now in
    let header = c.read.new.out in
    let format = c.in_ok-format.format in
    let shape = c.in_ok-format.shape in
    let of = header-of log.tells log.size header (still-known (g.L.Sectors.seen c.args.log.now).tells log.tells (HasSize log.size) c.in-Ok.ensures.step.same c.len-log_len.ensures.told) c.in-Ok.ensures.step.bytes in
    let other = sized device.tells device.size c.len.ensures.told in
    let head = c.in_ok-format.ensures.head in
    let first = subst (λ n. IsLengthFault shape n c.len.result c.in_err-check_lengths.field-0.0) c.len-log_len.ensures.size c.in_err-check_lengths.ensures.fault in
    let fault = subst (λ n. IsLengthFault shape log.size n c.in_err-check_lengths.field-0.0) c.len.ensures.size first in
    let cause : HasCauseIn log.tells device.tells c.in_err-check_lengths.field-0.0 =
    length-cause log.tells device.tells log.size device.size header format shape c.in_err-check_lengths.field-0.0 of other (omega arith) head fault in
    search rules

pub returns-in-Some-clause-start : goal.returns-in-Some-clause-start
returns-in-Some-clause-start g c =
    let log = reread (g.L.Sectors.seen c.args.log.now) (g.L.Sectors.seen c.read.new.self) in
    let device = g.D.Sectors.seen c.args.device.now in
    let header = c.read.new.out in
    let format = c.in_ok-format.format in
    let shape = c.in_ok-format.shape in
    let of = header-of log.tells log.size header (still-known (g.L.Sectors.seen c.args.log.now).tells log.tells (HasSize log.size) c.in-Ok.ensures.step.same c.len-log_len.ensures.told) c.in-Ok.ensures.step.bytes in
    let other = sized device.tells device.size c.len.ensures.told in
    let head = c.in_ok-format.ensures.head in
    let newest = ap (λ (layout : Layout). newest_checkpoint layout header) (sym c.layout_of.ensures.is) ∙ sym c.newest_in.ensures ∙ c.in-Some.is in
    starts log.tells device.tells log.size device.size header (record { format = format; shape = shape; number = c.in-Some.number; ckpt = c.in-Some.ckpt }) of other
    (record { long = omega arith; head = head; log_long = omega (arith, c.in_ok-check_lengths.ensures.fit.0); data_long = omega (arith, c.in_ok-check_lengths.ensures.fit.1) }) newest

pub returns-in-Some-clause-usable : goal.returns-in-Some-clause-usable
returns-in-Some-clause-usable g c =
    let bounds = checkpoint-bounds c.layout_of.result c.read.new.out c.in-Some.number c.in-Some.ckpt (sym c.newest_in.ensures ∙ c.in-Some.is) in
    record {
      limits = c.in_ok-format.ensures.limits;
      log_long = omega (arith, c.in_ok-check_lengths.ensures.fit.0);
      data_long = omega (arith, c.in_ok-check_lengths.ensures.fit.1);
      aligned = bounds.0;
      started = bounds.1;
      small = bounds.2;
    }

pub returns-in-None-clause-caused : goal.returns-in-None-clause-caused
returns-in-None-clause-caused g c =
    let log = reread (g.L.Sectors.seen c.args.log.now) (g.L.Sectors.seen c.read.new.self) in
    let device = g.D.Sectors.seen c.args.device.now in
    let header = c.read.new.out in
    let format = c.in_ok-format.format in
    let shape = c.in_ok-format.shape in
    let of = header-of log.tells log.size header (still-known (g.L.Sectors.seen c.args.log.now).tells log.tells (HasSize log.size) c.in-Ok.ensures.step.same c.len-log_len.ensures.told) c.in-Ok.ensures.step.bytes in
    let other = sized device.tells device.size c.len.ensures.told in
    let head = c.in_ok-format.ensures.head in
    let newest = ap (λ (layout : Layout). newest_checkpoint layout header) (sym c.layout_of.ensures.is) ∙ sym c.newest_in.ensures ∙ c.in-None.is in
    record {
      lengths = tt;
      cause = checkpoint-cause log.tells device.tells log.size device.size header format shape of other
          (record { long = omega arith; head = head; log_long = omega (arith, c.in_ok-check_lengths.ensures.fit.0); data_long = omega (arith, c.in_ok-check_lengths.ensures.fit.1) }) newest;
    }

pub returns-then-log_len-lt-HEADER_BYTES-clause-reads : goal.returns-then-log_len-lt-HEADER_BYTES-clause-reads
returns-then-log_len-lt-HEADER_BYTES-clause-reads g c = log-short c.args.log.now _ tt (omega (arith, c.len-log_len.ensures.size))

pub returns-in-Err-clause-reads : goal.returns-in-Err-clause-reads
returns-in-Err-clause-reads g c = log-fault _ _ c.in-Err.error _ c.log_fault.ensures (log-one _ _ _ _ _ _ _ c.in-Err.ensures.step c.in-Err.ensures.gives)

pub returns-in_err-format-clause-reads : goal.returns-in_err-format-clause-reads
returns-in_err-format-clause-reads g c =
    let fault = c.in_err-format.field-0.0 in
    let p = err_from_is_err_and c.from_residual.result c.from_residual.ensures.1 in
    rw (p.1, p.2) (log-own _ _ (log_error fault) (head-own c.read.new.out fault c.in_err-format.ensures.fault).0
    (log-one _ _ _ _ _ _ _ c.in-Ok.ensures.step c.in-Ok.ensures.gives))

pub returns-in_err-check_lengths-clause-reads : goal.returns-in_err-check_lengths-clause-reads
returns-in_err-check_lengths-clause-reads g c =
    let fault = c.in_err-check_lengths.field-0.0 in
    let p = err_from_is_err_and c.from_residual-in_err-check_lengths.result c.from_residual-in_err-check_lengths.ensures.1 in
    rw (p.1, p.2) (log-own _ _ (log_error fault) (length-own c.in_ok-format.shape _ _ fault c.in_err-check_lengths.ensures.fault).0
    (log-one _ _ _ _ _ _ _ c.in-Ok.ensures.step c.in-Ok.ensures.gives))

pub returns-in-Some-clause-reads : goal.returns-in-Some-clause-reads
returns-in-Some-clause-reads g c = log-one _ _ _ _ _ _ _ c.in-Ok.ensures.step c.in-Ok.ensures.gives

pub returns-in-None-clause-reads : goal.returns-in-None-clause-reads
returns-in-None-clause-reads g c = log-one _ _ _ _ _ _ _ c.in-Ok.ensures.step c.in-Ok.ensures.gives

pub returns-in-Err-clause-apart : goal.returns-in-Err-clause-apart
returns-in-Err-clause-apart g c = subst (λ (f : RecFault). f ≢ DataDev) (sym c.log_fault.ensures) (log-apart c.in-Err.error)

pub returns-in_err-format-clause-apart : goal.returns-in_err-format-clause-apart
returns-in_err-format-clause-apart g c =
    let fault = c.in_err-format.field-0.0 in
    let apart : fault ≢ DataDev = apart-own fault (head-own c.read.new.out fault c.in_err-format.ensures.fault).1 in search rules

pub returns-in_err-check_lengths-clause-apart : goal.returns-in_err-check_lengths-clause-apart
returns-in_err-check_lengths-clause-apart g c =
    let fault = c.in_err-check_lengths.field-0.0 in
    let apart : fault ≢ DataDev = apart-own fault (length-own c.in_ok-format.shape _ _ fault c.in_err-check_lengths.ensures.fault).1 in search rules
