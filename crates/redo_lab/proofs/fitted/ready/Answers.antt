-- Both devices are prepared, and their fuses are armed.
use Rattle.std.proofs.Common.{ap, sym, ◌∙◌, ◌≡◌, [], None}
use Rattle.std.specs.Option.{option_and_then}
use Rattle.redo_disk.specs.{Seen}
use Rattle.redo_io.specs.{SourceSeen}
use Rattle.redo_memdisk.specs.{armed_from}
use Rattle.redo_memdisk.specs.declared.fuse.Fuse.{Fuse}
use Rattle.redo_lab.proofs.Entered.{entered-then}
use Rattle.redo_lab.proofs.Fuses.{armed-now}
use Rattle.redo_lab.specs.Call.{Unfused, Handed, handed_of}
use Rattle.redo_lab.proofs.Rereading.{prepared-later}
use Rattle.redo_lab.proofs.fitted.ready.Goals as goal

-- whatever was handed beside the devices
abbrev no_device : Seen
no_device = record { size = 0; tells = None; crashed_from = None; faults = 0 }

abbrev no_archive : Unfused
no_archive = record { entry = no_device; now = no_device }

abbrev no_source : SourceSeen
no_source = record { left = None; faults = 0 }

abbrev nothing : Handed
nothing = handed_of [] no_archive no_source no_source

pub arm-requires : goal.arm-requires
arm-requires g c = (c.in-Ok.ensures.prepares nothing).0.0.stage

pub arm-requires-2 : goal.arm-requires-2
arm-requires-2 g c = (c.in-Ok.ensures.prepares nothing).0.1.stage

pub returns-in-Err-clause-ready : goal.returns-in-Err-clause-ready
returns-in-Err-clause-ready g c = λ handed command asked running same room.
    rw c.fault_of.ensures ((rw (c.plain-log.ensures.inner, c.plain-store.ensures.inner) at c.in-Err.ensures.prepares handed) command asked c.args.script.now running)

pub returns-clause-ready : goal.returns-clause-ready
returns-clause-ready g c = λ handed command asked running same room.
    let prepared = rw (c.plain-log.ensures.inner, c.plain-store.ensures.inner) at c.in-Ok.ensures.prepares handed in
    let log_told : armed_from g.L.Sectors.seen c.arm.new.self ≡ (g.L.Sectors.seen c.prepare.new.log.inner).tells =
    ap (option_and_then (λ device. (g.L.Sectors.seen device).tells)) c.arm.ensures.armed in
    let data_told : armed_from g.D.Sectors.seen c.arm-2.new.self ≡ (g.D.Sectors.seen c.prepare.new.store.inner).tells =
    ap (option_and_then (λ device. (g.D.Sectors.seen device).tells)) c.arm-2.ensures.armed in
    c.open_fitted.ensures.ready handed c.args.log c.args.store command asked c.args.stops running same room
    (record {
      prepared = prepared-later _
          (record { now = g.L.Sectors.seen c.prepare.new.log.inner; fuse = c.prepare.new.log.fuse; armed_from = (g.L.Sectors.seen c.prepare.new.log.inner).tells })
          (record { now = g.D.Sectors.seen c.prepare.new.store.inner; fuse = c.prepare.new.store.fuse; armed_from = (g.D.Sectors.seen c.prepare.new.store.inner).tells })
          (record {
            told = log_told;
            early_calls = ap (λ (fuse : Fuse). fuse.early_calls) c.arm.ensures.fuse;
            back = λ on none. on (ap (λ d. (g.L.Sectors.seen d).tells) c.arm.ensures.inner ∙ none);
          })
          (record {
            told = data_told;
            early_calls = ap (λ (fuse : Fuse). fuse.early_calls) c.arm-2.ensures.fuse;
            back = λ on none. on (ap (λ d. (g.D.Sectors.seen d).tells) c.arm-2.ensures.inner ∙ none);
          })
          prepared.1;
      log_device = armed-now g.L.Sectors.seen c.args.log c.prepare.new.log c.arm.new.self c.args.stops.log prepared.0.0 c.arm.ensures.inner c.arm.ensures.fuse log_told;
      data_device = armed-now g.D.Sectors.seen c.args.store c.prepare.new.store c.arm-2.new.self c.args.stops.store prepared.0.1 c.arm-2.ensures.inner c.arm-2.ensures.fuse data_told;
    }) (
      (ap (λ (fuse : Fuse). fuse.mid) c.arm.ensures.fuse ∙ prepared.0.0.mid, log_told ∙ ap (λ d. (g.L.Sectors.seen d).tells) (sym c.arm.ensures.inner)),
      (ap (λ (fuse : Fuse). fuse.mid) c.arm-2.ensures.fuse ∙ prepared.0.1.mid, data_told ∙ ap (λ d. (g.D.Sectors.seen d).tells) (sym c.arm-2.ensures.inner)),
    )

pub returns-in-Err-clause-entered : goal.returns-in-Err-clause-entered
returns-in-Err-clause-entered g c = record {
  log_device = c.in-Err.ensures.entered.log_device ∙ c.plain-log.ensures.entry;
  data_device = c.in-Err.ensures.entered.data_device ∙ c.plain-store.ensures.entry;
}

pub returns-clause-entered : goal.returns-clause-entered
returns-clause-entered g c = entered-then c.arm.new.self c.arm-2.new.self c.open_fitted.result
    (record {
      log_device = c.arm.ensures.entry ∙ c.in-Ok.ensures.entered.log_device ∙ c.plain-log.ensures.entry;
      data_device = c.arm-2.ensures.entry ∙ c.in-Ok.ensures.entered.data_device ∙ c.plain-store.ensures.entry;
    })
    c.open_fitted.ensures.entered

pub returns-clause-begins : goal.returns-clause-begins
returns-clause-begins g c = c.open_fitted.ensures.begins

pub returns-clause-archive_fits : goal.returns-clause-archive_fits
returns-clause-archive_fits g c = c.open_fitted.ensures.archive_fits
