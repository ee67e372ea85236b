-- The link from format 1 leaves the data device alone.
use Rattle.std.proofs.Common.{refl, subst, sym, arith}
use Rattle.std.specs.Prelude.{IfSome}
use Rattle.model_store.specs.{Reading}
use Rattle.redo_open.proofs.Chains.{first-beside}
use Rattle.redo_open.specs.Chain.{LinkStep, next_format}
use Rattle.redo_recover.specs.{reading_of}
use Rattle.redo_open.proofs.chain.migrate.Goals as goal

pub returns-in-One-clause-step : goal.returns-in-One-clause-step
returns-in-One-clause-step g c =
    let opened : Reading = reading_of c.args.recovered.now in
    let data_device = g.D.Sectors.seen c.args.data_device.now in
    subst (λ format. IfSome (next_format format) (λ after. LinkStep format after opened
    (g.L.Sectors.seen c.args.log.now)
    data_device c.to_second.result (g.L.Sectors.seen c.to_second.new.log) data_device)) (sym c.in-One.is)
    (c.to_second.ensures.step data_device)

pub returns-in-One-clause-called : goal.returns-in-One-clause-called
returns-in-One-clause-called g c = record {
  log = c.to_second.ensures.same;
  data_device = record { size = refl; later = omega arith };
  log_calls = c.to_second.ensures.calls;
  data_calls = first-beside g.D.Sectors.gives c.args.data_device.now (reading_of c.args.recovered.now)
      (g.L.Sectors.seen c.args.log.now) c.to_second.result
      (g.L.Sectors.seen c.to_second.new.log) c.to_second.ensures.step;
}
