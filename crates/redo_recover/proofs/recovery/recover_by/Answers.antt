use Rattle.std.proofs.Common.{◌≡◌, ◌≤◌, List, None, subst, sym}
use Rattle.std.proofs.lemmas.Result.{err_from_is_err_and}
use Rattle.std.specs.List.{AllByRecursion}
use Rattle.model_log.specs.declared.group.Whole.{Whole}
use Rattle.model_log.specs.declared.layout.Layout.{Layout}
use Rattle.model_log.specs.{IsStop, layout_of}
use Rattle.model_store.specs.{AreFoundIn, IsScan}
use Rattle.redo_recover.specs.Devices.{OnContent, OnSource, data_error, log_error}
use Rattle.redo_recover.specs.Groups.{IsScanFault}
use Rattle.redo_recover.specs.Reading.{IsScanOf}
use Rattle.redo_recover.proofs.Causing.{page-cause, reading-of, scan-cause}
use Rattle.redo_recover.proofs.Only.{log-own, log-then, only-none, only-own}
use Rattle.redo_recover.proofs.Owning.{own-apart, page-apart, page-lengths, scan-apart, scan-lengths}
use Rattle.redo_disk.specs.{HasSize}
use Rattle.redo_disk.proofs.Told.{still-known}
use Rattle.redo_recover.proofs.Unchanged.{IsUnchanged-same, contents-after}
use Rattle.redo_recover.specs.Start.{IsRecoveryStart}
use Rattle.redo_recover.proofs.recovery.recover_by.Goals as goal

pub read_pages-requires-clause-ends : goal.read_pages-requires-clause-ends
read_pages-requires-clause-ends g c =
    subst (λ (wholes : List Whole). AllByRecursion (λ (whole : Whole). whole.end ≤ c.in_ok-views.field-0.end) wholes) (sym c.as_slice.ensures.value)
    c.in_ok-views.ensures.scanned.end.groups

pub returns-in_err-format : goal.returns-in_err-format
returns-in_err-format g c =
    let p = err_from_is_err_and c.from_residual.result c.from_residual.ensures.1 in
    rw (p.1, p.2) (record {
      recovered = tt;
      caused = c.in_err-format.ensures.caused;
      log = c.in_err-format.ensures.reads;
      data_device = only-own _ _ (data_error c.in_err-format.field-0.0) (own-apart c.in_err-format.field-0.0 c.in_err-format.ensures.apart) (only-none c.args.data_device.now);
    })

pub returns-in_err-views : goal.returns-in_err-views
returns-in_err-views g c =
    let log = g.L.Sectors.seen c.args.log.now in
    let now = g.L.Sectors.seen c.scan_log.new.log in
    let start = c.in_ok-format.field-0 in
    let data_device = g.D.Sectors.seen c.args.data_device.now in
    let fault = c.in_err-views.field-0.0 in
    let layout : Layout = layout_of start.format start.shape in
    let is : IsScanFault start.shape layout start.ckpt now.tells fault =
    subst (λ (l : Layout). IsScanFault start.shape l start.ckpt now.tells fault) c.layout_of-layout.ensures.is c.in_err-views.ensures.fault in
    let p = err_from_is_err_and c.from_residual-in_err-views.result c.from_residual-in_err-views.ensures.1 in
    rw (p.1, p.2) (record {
      recovered = tt;
      caused = record {
        lengths = scan-lengths start.shape layout start.ckpt now.tells fault log.size data_device.size is;
        cause = scan-cause now.tells data_device.tells start fault
            (contents-after (g.L.Sectors.seen c.read_start.new.log) now data_device data_device (λ log_bytes data_bytes. IsRecoveryStart log_bytes data_bytes start)
            c.in_err-views.ensures.reads.unchanged (IsUnchanged-same data_device) c.in_ok-format.ensures.start) is;
      };
      log = log-then _ _ _ _ c.in_ok-format.ensures.reads c.in_err-views.ensures.reads;
      data_device = only-own _ _ (data_error fault) (scan-apart start.shape layout start.ckpt now.tells fault is) (only-none c.args.data_device.now);
    })

pub returns-in_err-pages : goal.returns-in_err-pages
returns-in_err-pages g c =
    let log = g.L.Sectors.seen c.args.log.now in
    let now = g.L.Sectors.seen c.scan_log.new.log in
    let data_now = g.D.Sectors.seen c.read_pages.new.device in
    let start = c.in_ok-format.field-0 in
    let scanned = c.in_ok-views.field-0 in
    let data_device = g.D.Sectors.seen c.args.data_device.now in
    let fault = c.in_err-pages.field-0.0 in
    let p = err_from_is_err_and c.from_residual-in_err-pages.result c.from_residual-in_err-pages.ensures.1 in
    rw (p.1, p.2) (record {
      recovered = tt;
      caused = record {
        lengths = page-lengths start.shape scanned.end data_now.tells fault log.size data_device.size c.in_err-pages.ensures.fault;
        cause = page-cause now.tells data_now.tells start c.in_ok-views.field-0.views.items
            c.in_ok-views.field-0.groups.items c.in_ok-views.field-0.end fault
            (contents-after (g.L.Sectors.seen c.read_start.new.log) now data_device data_now (λ log_bytes data_bytes. IsRecoveryStart log_bytes data_bytes start)
            c.in_ok-views.ensures.reads.unchanged c.in_err-pages.ensures.reads.unchanged c.in_ok-format.ensures.start)
            (subst (λ (layout : Layout). OnSource layout now.tells (λ source. IsScan start.shape layout.blocks source start.ckpt scanned.views.items scanned.groups.items scanned.end))
            c.layout_of-layout.ensures.is c.in_ok-views.ensures.scan) c.in_err-pages.ensures.fault;
      };
      log = log-own _ _ (log_error fault) (page-apart start.shape scanned.end data_now.tells fault c.in_err-pages.ensures.fault) (log-then _ _ _ None c.in_ok-format.ensures.reads c.in_ok-views.ensures.reads);
      data_device = c.in_err-pages.ensures.reads;
    })

pub returns : goal.returns
returns g c =
    let log = g.L.Sectors.seen c.args.log.now in
    let now = g.L.Sectors.seen c.scan_log.new.log in
    let data_now = g.D.Sectors.seen c.read_pages.new.device in
    let data_device = g.D.Sectors.seen c.args.data_device.now in
    let start = c.in_ok-format.field-0 in
    let scanned = c.in_ok-views.field-0 in
    let placed = c.in_ok-pages.field-0 in
    let same : c.layout_of-layout.result ≡ layout_of start.format start.shape = c.layout_of-layout.ensures.is in
    let known : IsScanOf start.shape (layout_of start.format start.shape) start.ckpt scanned =
    subst (λ (layout : Layout). IsScanOf start.shape layout start.ckpt scanned) same c.in_ok-views.ensures.scanned in
    record {
      recovered = record {
        read = reading-of now.tells data_now.tells start scanned.views.items scanned.groups.items scanned.end placed.pages
            (contents-after (g.L.Sectors.seen c.read_start.new.log) now data_device data_now (λ log_bytes data_bytes. IsRecoveryStart log_bytes data_bytes start)
            c.in_ok-views.ensures.reads.unchanged c.in_ok-pages.ensures.reads.unchanged c.in_ok-format.ensures.start)
            (subst (λ (layout : Layout). OnSource layout now.tells (λ source. IsScan start.shape layout.blocks source start.ckpt scanned.views.items scanned.groups.items scanned.end))
            same c.in_ok-views.ensures.scan)
            (rw c.as_slice.ensures.value at c.in_ok-pages.ensures.pages);
        found = c.in_ok-pages.ensures.found;
        stop = (subst (λ (layout : Layout). OnContent now.tells (IsStop layout start.ckpt scanned.views.items scanned.stop)) same c.in_ok-views.ensures.stop);
        tail = (subst (λ (layout : Layout). OnContent now.tells (λ content. AreFoundIn layout content start.ckpt scanned.views.items scanned.tail)) same
            c.in_ok-views.ensures.tail);
        sized = still-known data_device.tells data_now.tells (HasSize data_device.size) c.in_ok-pages.ensures.reads.unchanged.tells c.in_ok-format.ensures.sized;
        of_devices = record {
          usable = c.in_ok-format.ensures.usable;
          few_views = known.few_views;
          tail = known.tail;
          its_places = c.in_ok-pages.ensures.its_places;
          end = known.end;
          not_ahead = c.in_ok-pages.ensures.not_ahead;
        };
      };
      caused = tt;
      log = log-then _ _ _ None c.in_ok-format.ensures.reads c.in_ok-views.ensures.reads;
      data_device = c.in_ok-pages.ensures.reads;
    }
