-- The log becomes one of format 2.
use Rattle.model_store.specs.{Reading}
use Rattle.redo_open.proofs.Chains.{first-failed, first-linked}
use Rattle.redo_open.proofs.Asked.{log_ends}
use Rattle.redo_open.proofs.Inside.{ends_of, puts_of}
use Rattle.redo_disk.proofs.Made.{may_end}
use Rattle.redo_recover.specs.{reading_of}
use Rattle.redo_open.proofs.chain.to_second.Goals as goal

pub returns-in-Ok-clause-step : goal.returns-in-Ok-clause-step
returns-in-Ok-clause-step g c = λ data_device.
    let opened : Reading = reading_of c.args.recovered.now in
    first-linked opened c.args.start (g.L.Sectors.seen c.args.log.now) tt (g.L.Sectors.seen c.migrate_log.new.log)
    data_device c.requires.behind c.in-Ok.ensures.step

pub returns-in-Err-clause-step : goal.returns-in-Err-clause-step
returns-in-Err-clause-step g c = λ data_device.
    let opened : Reading = reading_of c.args.recovered.now in
    first-failed opened c.args.start (g.L.Sectors.seen c.args.log.now) c.in-Err.error c.log_fault.result
    (g.L.Sectors.seen c.migrate_log.new.log) data_device c.requires.behind c.log_fault.ensures c.in-Err.ensures.step

pub returns-in-Ok-clause-same : goal.returns-in-Ok-clause-same
returns-in-Ok-clause-same g c = let step = c.in-Ok.ensures.step in record { size = step.size; later = step.cause.later }

pub returns-in-Err-clause-same : goal.returns-in-Err-clause-same
returns-in-Err-clause-same g c = let step = c.in-Err.ensures.step in record {
  size = step.size;
  later =
      step.cause.later;
}

pub returns-in-Ok-clause-calls : goal.returns-in-Ok-clause-calls
returns-in-Ok-clause-calls g c = may_end (ends_of c.in-Ok.ensures.calls)

pub returns-in-Err-clause-calls : goal.returns-in-Err-clause-calls
returns-in-Err-clause-calls g c =
    log_ends c.in-Err.error c.log_fault.result c.log_fault.ensures (ends_of c.in-Err.ensures.calls)

pub returns-in-Ok-clause-inside : goal.returns-in-Ok-clause-inside
returns-in-Ok-clause-inside g c = puts_of c.in-Ok.ensures.calls

pub returns-in-Err-clause-inside : goal.returns-in-Err-clause-inside
returns-in-Err-clause-inside g c = puts_of c.in-Err.ensures.calls
