use Rattle.std.proofs.Common.{ap, refl, Ok, Err}
use Rattle.redo_lab.proofs.Alone.{alone-behind}
use Rattle.redo_lab.proofs.Entered.{entries-then, format-entries}
use Rattle.redo_lab.proofs.Formats.{format-ends, format-fails, format-to, formats-both}
use Rattle.redo_lab.proofs.Fuses.{unarmed-fresh}
use Rattle.redo_lab.proofs.Prepared.{kept-no-store}
use Rattle.redo_lab.specs.Call.{asked_shape, call_on}
use Rattle.redo_lab.proofs.simple.format_devices.Goals as goal
use Rattle.redo_lab.proofs.simple.format_devices.Goals.{in-Ok, in-Err}

pub returns : goal.returns
returns g c = record {
  ends = λ handed unread.
      let call = call_on g.L.Sectors.seen g.L.Sectors.gives g.D.Sectors.seen g.D.Sectors.gives handed
      c.args.log c.args.store c.format.new.log c.format.new.data_device in
      let shape = asked_shape c.args.page_size c.args.pages c.args.space c.args.log_blocks in
      elim c.match-format.branch [
        | in-Ok w ↦ rw (w.outcome-is, w.of_text-outcome.ensures) (format-ends call c.args.page_size c.args.pages c.args.space c.args.log_blocks unread
            (kept-no-store call shape _ _ (λ on. ap (λ d. (g.L.Sectors.seen d).tells) c.plain-log.ensures.inner) (λ on. ap (λ d. (g.D.Sectors.seen d).tells) c.plain-store.ensures.inner)
            (rw c.shape_of-shape.ensures at w.in-Ok.ensures.keeps)) _
            (formats-both g.L.Sectors.seen g.L.Sectors.gives g.D.Sectors.seen g.D.Sectors.gives c.args.log c.args.store (
              unarmed-fresh g.L.Sectors.seen c.args.log c.plain-log.result c.plain-log.ensures.inner c.plain-log.ensures.fuse,
              unarmed-fresh g.D.Sectors.seen c.args.store c.plain-store.result c.plain-store.ensures.inner c.plain-store.ensures.fuse,
            ) tt w.in-Ok.ensures.calls)
            c.requires c.laws.ensures (rw c.shape_of-shape.ensures at w.in-Ok.ensures.formatted) w.formatted.ensures)
        | in-Err w ↦ rw (w.outcome-is, w.fault_of.ensures)
            (format-fails g.L.Sectors.seen g.L.Sectors.gives g.D.Sectors.seen g.D.Sectors.gives c.args.log c.args.store (
              unarmed-fresh g.L.Sectors.seen c.args.log c.plain-log.result c.plain-log.ensures.inner c.plain-log.ensures.fuse,
              unarmed-fresh g.D.Sectors.seen c.args.store c.plain-store.result c.plain-store.ensures.inner c.plain-store.ensures.fuse,
            )
            (format-to call c.args.page_size c.args.pages c.args.space c.args.log_blocks unread
            (kept-no-store call shape _ _ (λ on. ap (λ d. (g.L.Sectors.seen d).tells) c.plain-log.ensures.inner) (λ on. ap (λ d. (g.D.Sectors.seen d).tells) c.plain-store.ensures.inner)
            (rw c.shape_of-shape.ensures at w.in-Err.ensures.keeps)) (λ same. (
              alone-behind g.L.Sectors.seen c.args.log c.plain-log.result c.format.new.log c.plain-log.ensures.inner c.plain-log.ensures.fuse same.0,
              alone-behind g.D.Sectors.seen c.args.store c.plain-store.result c.format.new.data_device c.plain-store.ensures.inner c.plain-store.ensures.fuse same.1,
            )))
            w.in-Err.fault w.in-Err.ensures.calls (rw c.shape_of-shape.ensures at w.in-Err.ensures.cause))
      ];
  entered =
      elim c.match-format.branch [
        | in-Ok w ↦ entries-then {log_old = c.plain-log.result} {data_old = c.plain-store.result} (record { log_device = c.plain-log.ensures.entry; data_device = c.plain-store.ensures.entry }) (format-entries g.L.Sectors.seen g.L.Sectors.gives g.D.Sectors.seen g.D.Sectors.gives _ _ _ _ (Ok tt) w.in-Ok.ensures.calls)
        | in-Err w ↦ entries-then {log_old = c.plain-log.result} {data_old = c.plain-store.result} (record { log_device = c.plain-log.ensures.entry; data_device = c.plain-store.ensures.entry }) (format-entries g.L.Sectors.seen g.L.Sectors.gives g.D.Sectors.seen g.D.Sectors.gives _ _ _ _ (Err w.in-Err.fault) w.in-Err.ensures.calls)
      ];
}
