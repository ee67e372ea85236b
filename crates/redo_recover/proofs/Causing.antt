-- What a scan's fault and a page's fault say of a store whose header and log were read, and what it is read as.
use Rattle.std.proofs.Common.{ℕ, List, Option}
use Rattle.model_device.specs.{Disk}
use Rattle.model_log.specs.{layout_of}
use Rattle.model_log.specs.declared.block.BlockView.{BlockView}
use Rattle.model_log.specs.declared.group.Whole.{Whole}
use Rattle.model_log.specs.declared.layout.Layout.{Layout}
use Rattle.model_page.specs.declared.content.Content.{Content}
use Rattle.model_store.specs.{AreReadPages, IsBadRecord, IsReading, IsScan, Refuses, taken, IsScanned}
use Rattle.model_store.specs.declared.refusal.Refusal.TheVariants as refusal
use Rattle.redo_recover.specs.Devices.{HasCauseIn, OnContent, OnContents, OnSource}
use Rattle.redo_recover.specs.Groups.{IsScanFault}
use Rattle.redo_recover.specs.Pages.{IsFirstLost, IsPageFault}
use Rattle.redo_recover.specs.Start.{IsRecoveryStart}
use Rattle.redo_recover.specs.declared.fault.RecFault.{RecFault}
use Rattle.redo_recover.specs.declared.fault.RecFault.TheVariants.{BadRecord, PageLost, PageAhead, LogDev, DataDev, NoMemory}
use Rattle.redo_recover.specs.declared.start.Start.{Start}
use Rattle.redo_recover.proofs.Contents.{contents-more, contents-other}
use Rattle.redo_recover.proofs.Paging.{IsFirstKeptAhead}

pub scan-cause : (log data_told : Option Disk) (start : Start) (fault : RecFault)
    → OnContents log data_told (λ log_bytes data_bytes. IsRecoveryStart log_bytes data_bytes start)
    → IsScanFault start.shape (layout_of start.format start.shape) start.ckpt log fault → HasCauseIn log data_told fault
scan-cause log data_told start (BadRecord lsn) starts bad =
    let layout : Layout = layout_of start.format start.shape in
    let IsBad : List ℕ → Type 0 = λ content. IsBadRecord start.shape layout.blocks (taken layout content) start.ckpt lsn in
    contents-more log data_told (λ log_bytes data_bytes. IsRecoveryStart log_bytes data_bytes start) IsBad
    (λ log_bytes data_bytes. Refuses log_bytes data_bytes (refusal.BadRecord lsn))
    (λ log_bytes data_bytes is here. (start.format, start.shape, start.number, start.ckpt, is.devices, is.newest, here))
    starts bad
scan-cause log data_told start LogDev starts is = tt
scan-cause log data_told start NoMemory starts is = tt
scan-cause log data_told start _ starts none = absurd none

-- the log was scanned from there on
record IsStartScanned (start : Start) (views : List BlockView) (wholes : List Whole) (end : ℕ) (log_bytes data_bytes : List ℕ) : Type 0 where
  pub starts : IsRecoveryStart log_bytes data_bytes start
  pub scan : IsScan start.shape (layout_of start.format start.shape).blocks (taken (layout_of start.format start.shape) log_bytes) start.ckpt views wholes end

started-scanned : (log data_told : Option Disk) (start : Start) (views : List BlockView) (wholes : List Whole) (end : ℕ)
    → OnContents log data_told (λ log_bytes data_bytes. IsRecoveryStart log_bytes data_bytes start)
    → OnSource (layout_of start.format start.shape) log (λ source. IsScan start.shape (layout_of start.format start.shape).blocks source start.ckpt views wholes end) → OnContents log data_told (IsStartScanned start views wholes end)
started-scanned log data_told start views wholes end starts scan =
    contents-more log data_told (λ log_bytes data_bytes. IsRecoveryStart log_bytes data_bytes start)
    (λ content. IsScan start.shape (layout_of start.format start.shape).blocks (taken (layout_of start.format start.shape) content) start.ckpt views wholes end) (IsStartScanned start views wholes end)
    (λ log_bytes data_bytes first scanned. record { starts = first; scan = scanned }) starts
    scan

-- a store of which so much is read
scanned-to : (start : Start) (views : List BlockView) (wholes : List Whole) (end : ℕ) (log_bytes data_bytes : List ℕ)
    → IsStartScanned start views wholes end log_bytes data_bytes → IsScanned log_bytes data_bytes start.shape end
scanned-to start views wholes end log_bytes data_bytes known = record {
  format = start.format;
  number = start.number;
  ckpt = start.ckpt;
  views = views;
  wholes = wholes;
  scan = record { devices = known.starts.devices; checkpoint = known.starts.newest; scan = known.scan };
}

pub page-cause : (log data_told : Option Disk) (start : Start) (views : List BlockView) (wholes : List Whole) (end : ℕ) (fault : RecFault)
    → OnContents log data_told (λ log_bytes data_bytes. IsRecoveryStart log_bytes data_bytes start)
    → OnSource (layout_of start.format start.shape) log (λ source. IsScan start.shape (layout_of start.format start.shape).blocks source start.ckpt views wholes end)
    → IsPageFault start.shape end data_told fault → HasCauseIn log data_told fault
page-cause log data_told start views wholes end (PageLost p) starts scan lost =
    contents-other log data_told (IsStartScanned start views wholes end) (λ content. IsFirstLost start.shape content p)
    (λ log_bytes data_bytes. Refuses log_bytes data_bytes (refusal.PageLost p))
    (λ log_bytes data_bytes known is. (start.shape, end, scanned-to start views wholes end log_bytes data_bytes known, is.below, is.lost, is.kept))
    (started-scanned log data_told start views wholes end starts scan) lost
page-cause log data_told start views wholes end (PageAhead p lsn) starts scan ahead =
    contents-other log data_told (IsStartScanned start views wholes end) (IsFirstKeptAhead start.shape end p lsn)
    (λ log_bytes data_bytes. Refuses log_bytes data_bytes (refusal.PageAhead p lsn))
    (λ log_bytes data_bytes known is. (start.shape, end, scanned-to start views wholes end log_bytes data_bytes known, is.0, is.1, is.2, is.3, is.4))
    (started-scanned log data_told start views wholes end starts scan) ahead
page-cause log data_told start views wholes end DataDev starts scan is = tt
page-cause log data_told start views wholes end NoMemory starts scan is = tt
page-cause log data_told start views wholes end _ starts scan none = absurd none

-- THE READING of a store that was started, scanned and whose pages were read.
pub reading-of : (log data_told : Option Disk) (start : Start) (views : List BlockView) (wholes : List Whole) (end : ℕ) (pages : List Content)
    → OnContents log data_told (λ log_bytes data_bytes. IsRecoveryStart log_bytes data_bytes start)
    → OnSource (layout_of start.format start.shape) log (λ source. IsScan start.shape (layout_of start.format start.shape).blocks source start.ckpt views wholes end)
    → OnContent data_told (λ content. AreReadPages start.shape content wholes end pages)
    → OnContents log data_told (λ log_bytes data_bytes. IsReading log_bytes data_bytes
    (record { format = start.format; shape = start.shape; number = start.number; ckpt = start.ckpt; views = views; wholes = wholes; end = end; pages = pages }))
reading-of log data_told start views wholes end pages starts scan read =
    contents-other log data_told (IsStartScanned start views wholes end) (λ content. AreReadPages start.shape content wholes end pages)
    (λ log_bytes data_bytes. IsReading log_bytes data_bytes
    (record { format = start.format; shape = start.shape; number = start.number; ckpt = start.ckpt; views = views; wholes = wholes; end = end; pages = pages }))
    (λ log_bytes data_bytes known all. record {
      scan = record { devices = known.starts.devices; checkpoint = known.starts.newest; scan = known.scan };
      count = all.count;
      each = all.each;
    })
    (started-scanned log data_told start views wholes end starts scan) read
