use Rattle.std.proofs.Common.{refl}
use Rattle.redo_recover.specs.{reading_of}
use Rattle.redo_lab.proofs.Entered.{both-entries, entries-then}
use Rattle.redo_lab.proofs.Plain.{only-read, plain-reads, recovers-off}
use Rattle.redo_lab.proofs.Rereading.{failure-ends, log-reads, reading-ends}
use Rattle.redo_lab.proofs.simple.print_pages.Goals as goal
use Rattle.redo_lab.proofs.simple.print_pages.Goals.{in-Ok, in-Err}

pub returns : goal.returns
returns g c = record {
  ends = λ handed unread.
      elim c.match-recover_with.branch [
        | in-Ok w ↦ rw (w.outcome-is, w.of_text-outcome.ensures) (reading-ends (plain-reads (recovers-off _ c.args.workers unread) c.laws.ensures) _ _ refl refl (reading_of w.in-Ok.recovered) _ (
          only-read c.plain-log.ensures.inner c.plain-log.ensures.fuse (log-reads w.in-Ok.ensures.log.calls),
          only-read c.plain-store.ensures.inner c.plain-store.ensures.fuse w.in-Ok.ensures.data_device.calls,
        )
            w.in-Ok.ensures.recovered.read w.reading_text.ensures)
        | in-Err w ↦ rw (w.outcome-is, w.fault_of.ensures) (failure-ends (plain-reads (recovers-off _ c.args.workers unread) c.laws.ensures) _ _ refl refl w.in-Err.fault (
          only-read c.plain-log.ensures.inner c.plain-log.ensures.fuse (log-reads w.in-Err.ensures.log.calls),
          only-read c.plain-store.ensures.inner c.plain-store.ensures.fuse w.in-Err.ensures.data_device.calls,
        )
            w.in-Err.ensures.caused.cause)
      ];
  entered =
      elim c.match-recover_with.branch [
        | in-Ok w ↦ entries-then {log_old = c.plain-log.result} {data_old = c.plain-store.result} (record { log_device = c.plain-log.ensures.entry; data_device = c.plain-store.ensures.entry }) (both-entries w.in-Ok.ensures.log.calls w.in-Ok.ensures.data_device.calls)
        | in-Err w ↦ entries-then {log_old = c.plain-log.result} {data_old = c.plain-store.result} (record { log_device = c.plain-log.ensures.entry; data_device = c.plain-store.ensures.entry }) (both-entries w.in-Err.ensures.log.calls w.in-Err.ensures.data_device.calls)
      ];
}
