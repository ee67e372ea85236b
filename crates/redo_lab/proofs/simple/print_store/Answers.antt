use Rattle.std.proofs.Common.{refl}
use Rattle.redo_recover.specs.{reading_of}
use Rattle.redo_lab.proofs.Entered.{both-entries, entries-then}
use Rattle.redo_lab.proofs.Plain.{dumps-off, listed, only-read, plain-reads}
use Rattle.redo_lab.proofs.Rereading.{failure-ends, log-reads, reading-ends}
use Rattle.redo_lab.proofs.simple.print_store.Goals as goal
use Rattle.redo_lab.proofs.simple.print_store.Goals.{in-Ok, in-Err}

pub returns : goal.returns
returns g c = record {
  ends = λ handed unread.
      elim c.match-recover.branch [
        | in-Ok w ↦ rw (w.outcome-is, w.of_text-outcome.ensures) (reading-ends (plain-reads (dumps-off _ c.args.why unread) c.laws.ensures) _ _ refl refl (reading_of w.in-Ok.recovered) _ (
          only-read c.plain-log.ensures.inner c.plain-log.ensures.fuse (log-reads w.in-Ok.ensures.log.calls),
          only-read c.plain-store.ensures.inner c.plain-store.ensures.fuse w.in-Ok.ensures.data_device.calls,
        )
            w.in-Ok.ensures.recovered.read (listed _ c.args.why (reading_of w.in-Ok.recovered) w.in-Ok.recovered.stop w.listing_of.result
            (only-read c.plain-log.ensures.inner c.plain-log.ensures.fuse (log-reads w.in-Ok.ensures.log.calls)).1.0 w.in-Ok.ensures.recovered.stop w.listing_of.ensures))
        | in-Err w ↦ rw (w.outcome-is, w.fault_of.ensures) (failure-ends (plain-reads (dumps-off _ c.args.why unread) c.laws.ensures) _ _ refl refl w.in-Err.fault (
          only-read c.plain-log.ensures.inner c.plain-log.ensures.fuse (log-reads w.in-Err.ensures.log.calls),
          only-read c.plain-store.ensures.inner c.plain-store.ensures.fuse w.in-Err.ensures.data_device.calls,
        )
            w.in-Err.ensures.caused.cause)
      ];
  entered =
      elim c.match-recover.branch [
        | in-Ok w ↦ entries-then {log_old = c.plain-log.result} {data_old = c.plain-store.result} (record { log_device = c.plain-log.ensures.entry; data_device = c.plain-store.ensures.entry }) (both-entries w.in-Ok.ensures.log.calls w.in-Ok.ensures.data_device.calls)
        | in-Err w ↦ entries-then {log_old = c.plain-log.result} {data_old = c.plain-store.result} (record { log_device = c.plain-log.ensures.entry; data_device = c.plain-store.ensures.entry }) (both-entries w.in-Err.ensures.log.calls w.in-Err.ensures.data_device.calls)
      ];
}
