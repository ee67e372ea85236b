use Rattle.std.proofs.Common.{◌∙◌, refl}
use Rattle.redo_recover.specs.{reading_of}
use Rattle.redo_lab.proofs.Behind.{calls-same, crash-same, same-then}
use Rattle.redo_lab.proofs.ByDrive.{driven-later}
use Rattle.redo_lab.proofs.CrashEnds.{crash-reads}
use Rattle.redo_lab.proofs.Entered.{both-entries}
use Rattle.redo_lab.proofs.Rereading.{crashed-since, failure-ends, log-reads, reading-ends, was_of}
use Rattle.redo_lab.specs.Runs.{played_follows, played_run}
use Rattle.redo_lab.proofs.crash_command.crash_and_read.Goals as goal

pub returns-in-Ok-clause-ends : goal.returns-in-Ok-clause-ends
returns-in-Ok-clause-ends g c = λ asked handed log_entry data_entry read left told none.
    let now = c.in-Ok.ensures in
    rw c.of_text.ensures (reading-ends
    (crash-reads _ _ (driven-later g.L.Sectors.seen g.L.Sectors.gives g.D.Sectors.seen g.D.Sectors.gives
    (same-then (crash-same c.crash.ensures.gives) (calls-same now.log.calls))
    (same-then (crash-same c.crash-2.ensures.gives) (calls-same now.data_device.calls)))
    asked c.args.crash.stops c.args.crash.pick c.args.crash.workers c.args.script.now
    (played_run c.args.played) (played_follows c.args.played)
    (was_of g.L.Sectors.seen c.args.log.now) (was_of g.D.Sectors.seen c.args.store.now) c.laws.ensures read left told none)
    _ _ refl refl (reading_of c.in-Ok.recovered) _
    (crashed-since left.armed.log_device c.crash.ensures.gives (log-reads now.log.calls), crashed-since left.armed.data_device c.crash-2.ensures.gives now.data_device.calls)
    now.recovered.read c.report_crash.ensures)

pub returns-in-Err-clause-ends : goal.returns-in-Err-clause-ends
returns-in-Err-clause-ends g c = λ asked handed log_entry data_entry read left told none.
    let now = c.in-Err.ensures in
    rw c.fault_of.ensures (failure-ends
    (crash-reads _ _ (driven-later g.L.Sectors.seen g.L.Sectors.gives g.D.Sectors.seen g.D.Sectors.gives
    (same-then (crash-same c.crash.ensures.gives) (calls-same now.log.calls))
    (same-then (crash-same c.crash-2.ensures.gives) (calls-same now.data_device.calls)))
    asked c.args.crash.stops c.args.crash.pick c.args.crash.workers c.args.script.now
    (played_run c.args.played) (played_follows c.args.played)
    (was_of g.L.Sectors.seen c.args.log.now) (was_of g.D.Sectors.seen c.args.store.now) c.laws.ensures read left told none)
    _ _ refl refl c.in-Err.fault
    (crashed-since left.armed.log_device c.crash.ensures.gives (log-reads now.log.calls), crashed-since left.armed.data_device c.crash-2.ensures.gives now.data_device.calls)
    now.caused.cause)

pub returns-in-Ok-clause-entered : goal.returns-in-Ok-clause-entered
returns-in-Ok-clause-entered g c =
    let calls = both-entries c.in-Ok.ensures.log.calls c.in-Ok.ensures.data_device.calls in
    record { log_device = calls.log_device ∙ c.crash.ensures.gives.same_entry; data_device = calls.data_device ∙ c.crash-2.ensures.gives.same_entry }

pub returns-in-Err-clause-entered : goal.returns-in-Err-clause-entered
returns-in-Err-clause-entered g c =
    let calls = both-entries c.in-Err.ensures.log.calls c.in-Err.ensures.data_device.calls in
    record { log_device = calls.log_device ∙ c.crash.ensures.gives.same_entry; data_device = calls.data_device ∙ c.crash-2.ensures.gives.same_entry }
