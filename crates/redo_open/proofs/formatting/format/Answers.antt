use Rattle.std.proofs.Common.{ℕ, refl, subst, arith}
use Rattle.redo_recover.specs.{IsLengthFault}
use Rattle.redo_open.proofs.Inside.{puts_of}
use Rattle.redo_open.proofs.Puts.{put_nothing}
use Rattle.redo_open.proofs.Causes.{judges-fault, length-calls, length-cause}
use Rattle.redo_open.proofs.formatting.format.Goals as goal

pub returns-in-Err-clause-lengths : goal.returns-in-Err-clause-lengths
returns-in-Err-clause-lengths g c =
    judges-fault c.args.shape.now (g.L.Sectors.seen c.args.log.now).size (g.D.Sectors.seen c.args.data_device.now).size c.in-Err.fault
    (subst (λ (n : ℕ). IsLengthFault c.args.shape.now n (g.D.Sectors.seen c.args.data_device.now).size c.in-Err.fault) c.len.ensures.size
    (subst (λ (n : ℕ). IsLengthFault c.args.shape.now c.len.result n c.in-Err.fault) c.len-2.ensures.size c.in-Err.ensures.fault))

pub returns-in-Err-clause-cause : goal.returns-in-Err-clause-cause
returns-in-Err-clause-cause g c =
    length-cause c.args.shape.now (g.L.Sectors.seen c.args.log.now) (g.D.Sectors.seen c.args.data_device.now)
    (g.L.Sectors.seen c.args.log.now) (g.D.Sectors.seen c.args.data_device.now) c.in-Err.fault
    (subst (λ (n : ℕ). IsLengthFault c.args.shape.now n (g.D.Sectors.seen c.args.data_device.now).size c.in-Err.fault) c.len.ensures.size
    (subst (λ (n : ℕ). IsLengthFault c.args.shape.now c.len.result n c.in-Err.fault) c.len-2.ensures.size c.in-Err.ensures.fault))

pub returns-in-Err-clause-calls : goal.returns-in-Err-clause-calls
returns-in-Err-clause-calls g c =
    length-calls g.L.Sectors.gives g.D.Sectors.gives c.args.log.now c.args.data_device.now c.args.shape.now _ _ c.in-Err.fault c.in-Err.ensures.fault

pub returns-in-Err-clause-called : goal.returns-in-Err-clause-called
returns-in-Err-clause-called g c =
    record {
      log = record { size = refl; later = omega arith };
      data_device = record { size = refl; later = omega arith };
      log_calls = puts_of (put_nothing g.L.Sectors.gives c.args.log.now);
      data_calls = puts_of (put_nothing g.D.Sectors.gives c.args.data_device.now);
    }
