-- The steps, and then the run.
use Rattle.std.proofs.Common.{◌≡◌, List, Some, None, Ok, Err, refl, sym, ap, subst, arith}
use Rattle.std.specs.Prelude.{Result}
use Rattle.model_base.specs.{IsWithinLimits, run_shape}
use Rattle.model_base.specs.declared.shape.Shape.{Shape}
use Rattle.model_log.specs.{layout_of}
use Rattle.model_store.specs.{Reading}
use Rattle.redo_disk.specs.{Call, MayEndWith, Seen}
use Rattle.redo_disk.specs.declared.error.DevError.TheVariants as device
use Rattle.redo_open.proofs.Asked.{called_then, started_called}
use Rattle.redo_open.proofs.Inside.{inside_behind, inside_run, puts_of, started_inside}
use Rattle.redo_open.proofs.Puts.{put_nothing}
use Rattle.redo_open.specs.Opening.{WritesInside, OpensRecovered}
use Rattle.redo_disk.proofs.Made.{none_may_end, out_of_memory}
use Rattle.redo_recover.specs.{AreNotAhead, data_error, log_error, reading_of}
use Rattle.redo_open.specs.Clear.{MayStart}
use Rattle.redo_open.specs.Devices.{AreCalled, DevicesStep}
use Rattle.redo_open.proofs.Recovered.{failed-before, IsStartable, may-start, not-ahead-of-start, recovered-none, recovered-failed, recovered-started, then-linked}
use Rattle.redo_recover.specs.declared.fault.RecFault.{RecFault}
use Rattle.redo_recover.specs.declared.fault.RecFault.TheVariants.{NoMemory}
use Rattle.redo_recover.specs.declared.recovered.Recovered.{Recovered}
use Rattle.redo_store.specs.Part.{Part}
use Rattle.redo_open.proofs.opening.open_recovered.Goals as goal

pub returns-in-Err-clause-step : goal.returns-in-Err-clause-step
returns-in-Err-clause-step g c =
    let same : c.in-Err.data_device ≡ c.args.data_device = c.in-Err.ensures.dev in
    subst (λ device. OpensRecovered g.L.Sectors.seen g.D.Sectors.seen (reading_of c.args.recovered) c.args.recovered.tail (g.L.Sectors.seen c.args.log) (g.D.Sectors.seen device)
    (Err (NoMemory, c.args.log, c.in-Err.data_device))) same
    (recovered-none g.L.Sectors.seen g.D.Sectors.seen (reading_of c.args.recovered) c.args.recovered.tail c.args.log c.in-Err.data_device)

-- the steps up to the run, on devices that were handed in
first-step : {L D : Type 0} (log_seen : L → Seen) (data_seen : D → Seen) (recovered : Recovered) (log : L)
    (data_device left : D) (part new : Part D) (result : Result (Unit {0}) RecFault) (log_new : L)
    → part.dev ≡ data_device → left ≡ new.dev
    → DevicesStep (reading_of recovered) recovered.tail (log_seen log) (data_seen part.dev) result (log_seen log_new)
    (data_seen new.dev)
    → DevicesStep (reading_of recovered) recovered.tail (log_seen log) (data_seen data_device) result (log_seen log_new)
    (data_seen left)
first-step log_seen data_seen recovered log data_device left part new result log_new before after step =
    subst (λ dev. DevicesStep (reading_of recovered) recovered.tail (log_seen log) (data_seen data_device) result
    (log_seen log_new) (data_seen dev)) (sym after)
    (subst (λ dev. DevicesStep (reading_of recovered) recovered.tail (log_seen log) (data_seen dev) result
    (log_seen log_new) (data_seen new.dev)) before step)

-- their calls
first-called : {L D : Type 0} (log_seen : L → Seen) (data_seen : D → Seen) (log_gives : L → Call → L → Type 0)
    (data_gives : D → Call → D → Type 0) (LogCalls DataCalls : List Call → Type 0)
    (log log_new : L) (data_device left : D) (part new : Part D) → part.dev ≡ data_device → left ≡ new.dev
    → AreCalled log_seen data_seen log_gives data_gives LogCalls DataCalls log log_new part.dev new.dev
    → AreCalled log_seen data_seen log_gives data_gives LogCalls DataCalls log log_new data_device left
first-called log_seen data_seen log_gives data_gives LogCalls DataCalls log log_new data_device left part new before
    after called =
    subst (λ dev. AreCalled log_seen data_seen log_gives data_gives LogCalls DataCalls log log_new data_device dev)
    (sym after)
    (subst (λ dev. AreCalled log_seen data_seen log_gives data_gives LogCalls DataCalls log log_new dev new.dev) before
    called)

-- and what they write, within the length of a run
first-inside : {L D : Type 0} (log_gives : L → Call → L → Type 0) (data_gives : D → Call → D → Type 0) (shape : Shape)
    (log log_new : L) (data_device left : D) (part new : Part D)
    → IsWithinLimits shape → part.dev ≡ data_device → left ≡ new.dev
    → WritesInside log_gives data_gives shape log log_new part.dev new.dev
    → WritesInside log_gives data_gives (run_shape shape) log log_new data_device left
first-inside log_gives data_gives shape log log_new data_device left part new limits before after inside =
    subst (λ dev. WritesInside log_gives data_gives (run_shape shape) log log_new data_device dev) (sym after)
    (subst (λ dev. WritesInside log_gives data_gives (run_shape shape) log log_new dev new.dev) before
    (inside_run shape limits inside))

pub returns-in-Err-open_devices-clause-step : goal.returns-in-Err-open_devices-clause-step
returns-in-Err-open_devices-clause-step g c =
    let opened : Reading = reading_of c.args.recovered in
    let log_seen = g.L.Sectors.seen in
    let data_seen = g.D.Sectors.seen in
    let fault = c.in-Err-open_devices.fault in
    let left = c.into_dev.result in
    let step = first-step log_seen data_seen c.args.recovered c.args.log c.args.data_device left c.in-Ok.store
    c.open_devices.new.part (Err fault) c.open_devices.new.log
    (ap (λ (part : Part _). part.dev) c.in-Ok.ensures.part) c.into_dev.ensures c.in-Err-open_devices.ensures.step in
    recovered-failed log_seen data_seen opened c.args.recovered.tail (log_seen c.args.log)
    (data_seen c.args.data_device) fault c.open_devices.new.log left
    (failed-before opened c.args.recovered.tail (log_seen c.args.log) (data_seen c.args.data_device) fault
    (log_seen c.open_devices.new.log) (data_seen left) step)

pub returns-in-Err-migrate_from-clause-step : goal.returns-in-Err-migrate_from-clause-step
returns-in-Err-migrate_from-clause-step g c =
    let opened : Reading = reading_of c.args.recovered in
    let log_seen = g.L.Sectors.seen in
    let data_seen = g.D.Sectors.seen in
    let fault = c.in-Err-migrate_from.fault in
    let before = ap (λ (part : Part _). part.dev) c.in-Ok.ensures.part in
    let mid = c.into_dev-data_device.result in
    let step = first-step log_seen data_seen c.args.recovered c.args.log c.args.data_device mid c.in-Ok.store
    c.open_devices.new.part (Ok tt) c.open_devices.new.log
    before c.into_dev-data_device.ensures c.in-Ok-open_devices.ensures.step in
    let called = first-called log_seen data_seen g.L.Sectors.gives g.D.Sectors.gives (MayEndWith None)
    (MayEndWith None) c.args.log c.open_devices.new.log c.args.data_device mid c.in-Ok.store
    c.open_devices.new.part before c.into_dev-data_device.ensures c.in-Ok-open_devices.ensures.called in
    let last = c.in-Err-migrate_from.ensures in
    recovered-failed log_seen data_seen opened c.args.recovered.tail (log_seen c.args.log)
    (data_seen c.args.data_device) fault c.migrate_from.new.log c.migrate_from.new.data_device
    (then-linked opened c.args.recovered.tail (log_seen c.args.log) (data_seen c.args.data_device)
    (log_seen c.open_devices.new.log) (data_seen mid) tt (Err fault)
    (log_seen c.migrate_from.new.log) (data_seen c.migrate_from.new.data_device) step called.log.later
    called.data_device.later last.called.log.later last.called.data_device.later last.step)

pub returns-clause-step : goal.returns-clause-step
returns-clause-step g c =
    let recovered = c.args.recovered in
    let opened : Reading = reading_of recovered in
    let log_seen = g.L.Sectors.seen in
    let data_seen = g.D.Sectors.seen in
    let of = c.requires.of_devices in
    let start = c.start_after-start.result in
    let facts : IsStartable recovered start = record {
      limits = of.usable.limits;
      may = subst (MayStart (layout_of recovered.format recovered.shape) recovered.ckpt)
          (sym c.start_after-start.ensures)
          (may-start recovered.format recovered.shape recovered.ckpt recovered.groups.items recovered.end
          of.usable.limits of.usable.aligned of.usable.started of.usable.small of.end);
      behind = c.start_after-start.ensures;
      its_pages = of.its_places.its_pages;
      not_ahead = subst (AreNotAhead recovered.pages) (sym c.start_after-start.ensures)
          (not-ahead-of-start (layout_of recovered.format recovered.shape) recovered.ckpt recovered.groups.items
          recovered.end recovered.pages of.end of.not_ahead);
    } in
    let before = ap (λ (part : Part _). part.dev) c.in-Ok.ensures.part in
    let mid = c.into_dev-data_device.result in
    let step = first-step log_seen data_seen recovered c.args.log c.args.data_device mid c.in-Ok.store
    c.open_devices.new.part (Ok tt) c.open_devices.new.log
    before c.into_dev-data_device.ensures c.in-Ok-open_devices.ensures.step in
    let called = first-called log_seen data_seen g.L.Sectors.gives g.D.Sectors.gives (MayEndWith None)
    (MayEndWith None) c.args.log c.open_devices.new.log c.args.data_device mid c.in-Ok.store
    c.open_devices.new.part before c.into_dev-data_device.ensures c.in-Ok-open_devices.ensures.called in
    let last = c.in-Ok-migrate_from.ensures in
    recovered-started log_seen data_seen recovered start (log_seen c.args.log) (data_seen c.args.data_device)
    c.migrate_from.new.log c.migrate_from.new.data_device c.start_run.result facts
    (then-linked opened recovered.tail (log_seen c.args.log) (data_seen c.args.data_device)
    (log_seen c.open_devices.new.log) (data_seen mid) tt (Ok tt)
    (log_seen c.migrate_from.new.log) (data_seen c.migrate_from.new.data_device) step called.log.later
    called.data_device.later last.called.log.later last.called.data_device.later last.step)
    c.start_run.ensures

-- THE CALLS.

pub returns-in-Err-clause-called : goal.returns-in-Err-clause-called
returns-in-Err-clause-called g c =
    let seen = g.D.Sectors.seen in
    subst (λ dev. AreCalled g.L.Sectors.seen seen g.L.Sectors.gives g.D.Sectors.gives (MayEndWith (Some device.NoMemory)) (MayEndWith (Some device.NoMemory))
    c.args.log c.args.log c.args.data_device dev) (sym c.in-Err.ensures.dev) (record {
      log = record { size = refl; later = omega arith };
      data_device = record { size = refl; later = omega arith };
      log_calls = out_of_memory (none_may_end g.L.Sectors.gives c.args.log);
      data_calls = out_of_memory (none_may_end g.D.Sectors.gives c.args.data_device);
    })

pub returns-in-Err-open_devices-clause-called : goal.returns-in-Err-open_devices-clause-called
returns-in-Err-open_devices-clause-called g c =
    let fault = c.in-Err-open_devices.fault in
    first-called g.L.Sectors.seen g.D.Sectors.seen g.L.Sectors.gives g.D.Sectors.gives (MayEndWith (log_error fault))
    (MayEndWith (data_error fault))
    c.args.log c.open_devices.new.log c.args.data_device c.into_dev.result c.in-Ok.store c.open_devices.new.part
    (ap (λ (part : Part _). part.dev) c.in-Ok.ensures.part) c.into_dev.ensures
    c.in-Err-open_devices.ensures.called

pub returns-in-Err-migrate_from-clause-called : goal.returns-in-Err-migrate_from-clause-called
returns-in-Err-migrate_from-clause-called g c =
    called_then
    (first-called g.L.Sectors.seen g.D.Sectors.seen g.L.Sectors.gives g.D.Sectors.gives (MayEndWith None)
    (MayEndWith None)
    c.args.log c.open_devices.new.log c.args.data_device c.into_dev-data_device.result c.in-Ok.store
    c.open_devices.new.part (ap (λ (part : Part _). part.dev) c.in-Ok.ensures.part)
    c.into_dev-data_device.ensures c.in-Ok-open_devices.ensures.called)
    c.in-Err-migrate_from.ensures.called

pub returns-clause-called : goal.returns-clause-called
returns-clause-called g c =
    started_called g.L.Sectors.seen g.D.Sectors.seen c.args.log c.args.data_device c.migrate_from.new.log
    c.migrate_from.new.data_device
    c.args.recovered c.start_after-start.result c.start_run.result c.start_run.ensures
    (called_then
    (first-called g.L.Sectors.seen g.D.Sectors.seen g.L.Sectors.gives g.D.Sectors.gives (MayEndWith None)
    (MayEndWith None)
    c.args.log c.open_devices.new.log c.args.data_device c.into_dev-data_device.result c.in-Ok.store
    c.open_devices.new.part (ap (λ (part : Part _). part.dev) c.in-Ok.ensures.part)
    c.into_dev-data_device.ensures c.in-Ok-open_devices.ensures.called)
    c.in-Ok-migrate_from.ensures.called)

-- THE LENGTHS.

pub returns-in-Err-clause-inside : goal.returns-in-Err-clause-inside
returns-in-Err-clause-inside g c =
    subst (λ dev. WritesInside g.L.Sectors.gives g.D.Sectors.gives (run_shape c.args.recovered.shape) c.args.log
    c.args.log c.args.data_device dev) (sym c.in-Err.ensures.dev)
    (record { log = puts_of (put_nothing g.L.Sectors.gives c.args.log); data_device = puts_of (put_nothing g.D.Sectors.gives c.args.data_device) })

pub returns-in-Err-open_devices-clause-inside : goal.returns-in-Err-open_devices-clause-inside
returns-in-Err-open_devices-clause-inside g c =
    first-inside g.L.Sectors.gives g.D.Sectors.gives c.args.recovered.shape c.args.log c.open_devices.new.log
    c.args.data_device c.into_dev.result c.in-Ok.store c.open_devices.new.part
    c.requires.of_devices.usable.limits (ap (λ (part : Part _). part.dev) c.in-Ok.ensures.part) c.into_dev.ensures
    c.in-Err-open_devices.ensures.inside

pub returns-in-Err-migrate_from-clause-inside : goal.returns-in-Err-migrate_from-clause-inside
returns-in-Err-migrate_from-clause-inside g c =
    inside_behind
    (first-inside g.L.Sectors.gives g.D.Sectors.gives c.args.recovered.shape c.args.log c.open_devices.new.log
    c.args.data_device c.into_dev-data_device.result c.in-Ok.store
    c.open_devices.new.part c.requires.of_devices.usable.limits (ap (λ (part : Part _). part.dev) c.in-Ok.ensures.part)
    c.into_dev-data_device.ensures c.in-Ok-open_devices.ensures.inside)
    c.in-Err-migrate_from.ensures.inside

pub returns-clause-inside : goal.returns-clause-inside
returns-clause-inside g c =
    started_inside c.migrate_from.new.log c.migrate_from.new.data_device c.args.recovered
    c.start_after-start.result c.start_run.result c.start_run.ensures
    (inside_behind
    (first-inside g.L.Sectors.gives g.D.Sectors.gives c.args.recovered.shape c.args.log c.open_devices.new.log
    c.args.data_device c.into_dev-data_device.result c.in-Ok.store
    c.open_devices.new.part c.requires.of_devices.usable.limits (ap (λ (part : Part _). part.dev) c.in-Ok.ensures.part)
    c.into_dev-data_device.ensures c.in-Ok-open_devices.ensures.inside)
    c.in-Ok-migrate_from.ensures.inside)
