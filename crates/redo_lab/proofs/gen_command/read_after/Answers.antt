use Rattle.std.proofs.Common.{arith, refl}
use Rattle.redo_recover.specs.{reading_of}
use Rattle.redo_lab.proofs.Behind.{calls-same}
use Rattle.redo_lab.proofs.ByDrive.{driven-later}
use Rattle.redo_lab.proofs.Entered.{both-entries}
use Rattle.redo_lab.proofs.Rereading.{failure-ends, log-reads, read-since, reading-ends, was_of}
use Rattle.redo_lab.proofs.RunEnds.{gen-reads}
use Rattle.redo_lab.specs.Runs.{ran_of}
use Rattle.redo_lab.proofs.gen_command.read_after.Goals as goal

pub returns-in-Ok-clause-ends : goal.returns-in-Ok-clause-ends
returns-in-Ok-clause-ends g c = λ handed log_entry data_entry seed users groups max script running was.
    let now = c.in-Ok.ensures in
    rw c.of_text.ensures (reading-ends
    (gen-reads _ _ (driven-later g.L.Sectors.seen g.L.Sectors.gives g.D.Sectors.seen g.D.Sectors.gives
    (calls-same now.log.calls) (calls-same now.data_device.calls))
    seed users groups max script (ran_of c.args.played.now) c.args.played.now.follows.items
    (was_of g.L.Sectors.seen c.args.log.now) (was_of g.D.Sectors.seen c.args.store.now) c.laws.ensures running was.0 was.1 was.2)
    _ _ refl refl (reading_of c.in-Ok.recovered) _
    (read-since was.0.armed.log_device (omega (arith, was.2.0)) (log-reads now.log.calls), read-since was.0.armed.data_device (omega (arith, was.2.0)) now.data_device.calls)
    now.recovered.read c.summarize.ensures)

pub returns-in-Err-clause-ends : goal.returns-in-Err-clause-ends
returns-in-Err-clause-ends g c = λ handed log_entry data_entry seed users groups max script running was.
    let now = c.in-Err.ensures in
    rw c.fault_of.ensures (failure-ends
    (gen-reads _ _ (driven-later g.L.Sectors.seen g.L.Sectors.gives g.D.Sectors.seen g.D.Sectors.gives
    (calls-same now.log.calls) (calls-same now.data_device.calls))
    seed users groups max script (ran_of c.args.played.now) c.args.played.now.follows.items
    (was_of g.L.Sectors.seen c.args.log.now) (was_of g.D.Sectors.seen c.args.store.now) c.laws.ensures running was.0 was.1 was.2)
    _ _ refl refl c.in-Err.fault
    (read-since was.0.armed.log_device (omega (arith, was.2.0)) (log-reads now.log.calls), read-since was.0.armed.data_device (omega (arith, was.2.0)) now.data_device.calls)
    now.caused.cause)

pub returns-in-Ok-clause-entered : goal.returns-in-Ok-clause-entered
returns-in-Ok-clause-entered g c = both-entries c.in-Ok.ensures.log.calls c.in-Ok.ensures.data_device.calls

pub returns-in-Err-clause-entered : goal.returns-in-Err-clause-entered
returns-in-Err-clause-entered g c = both-entries c.in-Err.ensures.log.calls c.in-Err.ensures.data_device.calls
