-- While the two header blocks are made alike, the log is read as it was.
use Rattle.std.proofs.Common.{◌≡◌, ◌≤◌, ◌⊎◌, ℕ, inl, List, length, Option, Some, None, sym, ap, ◌∙◌, ⊎_elim, arith}
use Rattle.model_device.specs.{sector}
use Rattle.model_base.specs.declared.shape.Shape.{Shape}
use Rattle.model_log.specs.declared.head.Format.{Format}
use Rattle.model_log.specs.declared.head.Format.TheVariants.{One, Two, Three}
use Rattle.model_log.specs.declared.layout.Layout.{Layout}
use Rattle.model_log.specs.{header_block, layout_of, log_block, lsn_at, sector_of}
use Rattle.model_store.specs.{AreFoundIn, AreInPlace, IsOrderly, IsReading, IsScan, read_full, read_tail, taken, taken_from, Reading}
use Rattle.model_store.specs.declared.tail.Tail.{Tail}
use Rattle.model_store.proofs.Taking.{taken-same}
use Rattle.model_parts.specs.Formatted.{KeepsHead}
use Rattle.model_parts.specs.Opened.{found_layout, ReadsOpened}
use Rattle.model_parts.specs.Rewritten.{IsRewriting}
use Rattle.model_parts.proofs.Clearing.{block-sector, ring-from}
use Rattle.model_parts.proofs.Dropping.{whole-scan}
use Rattle.model_parts.proofs.Reread.{again-reads, same-newest}

first-from : (format : Format) (shape : Shape) → 4 ≤ (layout_of format shape).first
first-from One shape = omega arith
first-from Two shape = omega arith
first-from Three shape = omega arith

block-kept : (format : Format) (shape : Shape) (old new : List ℕ) (b : ℕ) → KeepsHead old new → log_block (layout_of format shape) b new ≡ log_block (layout_of format shape) b old
block-kept format shape old new b keeps =
    let k : ℕ = sector_of (layout_of format shape) b in
    let from : (layout_of format shape).first ≤ k = ring-from (layout_of format shape) b in
    let first : 4 ≤ (layout_of format shape).first = first-from format shape in
    block-sector (layout_of format shape) b new ∙ keeps.others k (λ zero. omega arith) (λ two. omega arith) ∙ sym (block-sector (layout_of format shape) b old)

tail-kept : (old new : List ℕ) (k : ℕ) → KeepsHead old new → 3 ≤ k → sector k new ≡ sector k old
tail-kept old new k keeps from = keeps.others k (λ zero. omega arith) (λ two. omega arith)

source-kept : (format : Format) (shape : Shape) (old new : List ℕ) (lsn : ℕ) → KeepsHead old new
    → taken (layout_of format shape) new lsn ≡ taken (layout_of format shape) old lsn
source-kept format shape old new lsn keeps =
    taken-same (layout_of format shape) old new lsn (block-kept format shape old new lsn keeps) (tail-kept old new 4 keeps (omega arith)) (tail-kept old new 5 keeps (omega arith))

pub kept-reads : (opened : Reading) (log_bytes data_bytes new_log : List ℕ) → IsReading log_bytes data_bytes opened → KeepsHead log_bytes new_log → IsReading new_log data_bytes opened
kept-reads opened log_bytes data_bytes new_log reads keeps =
    let layout : Layout = found_layout opened in
    let same : (lsn : ℕ) → taken layout new_log lsn ≡ taken layout log_bytes lsn = λ lsn. source-kept opened.format opened.shape log_bytes new_log lsn keeps in
    let scan : IsScan opened.shape layout.blocks (taken layout new_log) opened.ckpt opened.views opened.wholes opened.end =
    whole-scan opened.shape layout.blocks opened.ckpt opened.views opened.wholes opened.end (taken layout log_bytes) (taken layout new_log) reads.scan.scan
    (λ i below. same (lsn_at opened.ckpt i)) (λ less. inl (same (lsn_at opened.ckpt (length opened.views)))) in
    record {
      scan = record {
        devices = record {
          head = record { long = omega (arith, keeps.same_length, reads.scan.devices.head.long); head = keeps.head ∙ reads.scan.devices.head.head };
          log_long = omega (arith, keeps.same_length, reads.scan.devices.log_long);
          data_long = reads.scan.devices.data_long;
        };
        checkpoint = same-newest layout log_bytes new_log (keeps.others 1 (λ zero. omega arith) (λ two. omega arith)) (tail-kept log_bytes new_log 3 keeps (omega arith)) ∙ reads.scan.checkpoint;
        scan = scan;
      };
      count = reads.count;
      each = reads.each;
    }

pub kept-orderly : (opened : Reading) (log_bytes data_bytes new_log : List ℕ) → IsOrderly log_bytes data_bytes opened → KeepsHead log_bytes new_log → IsOrderly new_log data_bytes opened
kept-orderly opened log_bytes data_bytes new_log orderly keeps = record {
  reads = kept-reads opened log_bytes data_bytes new_log orderly.reads keeps;
  copies = orderly.copies;
  numbers_left = orderly.numbers_left;
  lsns_left = orderly.lsns_left;
}

places-kept : (format : Format) (shape : Shape) (old new : List ℕ) (ckpt n : ℕ) → AreInPlace (layout_of format shape) old ckpt n → KeepsHead old new
    → AreInPlace (layout_of format shape) new ckpt n
places-kept format shape old new ckpt n are keeps i below =
    let found = are i below in (found.0, ap (read_full (lsn_at ckpt i)) (block-kept format shape old new (lsn_at ckpt i) keeps) ∙ found.1)

which-from : (tail : Tail) → (tail.which ≡ 4) ⊎ (tail.which ≡ 5) → 3 ≤ tail.which
which-from tail place = ⊎_elim (λ e. omega arith) (λ o. omega arith) place

pub kept-found : (opened : Reading) (log_bytes new_log : List ℕ) (tail : Option Tail) → AreFoundIn (found_layout opened) log_bytes opened.ckpt opened.views tail
    → KeepsHead log_bytes new_log → AreFoundIn (found_layout opened) new_log opened.ckpt opened.views tail
kept-found opened log_bytes new_log None found keeps = λ format. places-kept opened.format opened.shape log_bytes new_log opened.ckpt (length opened.views) (found format) keeps
kept-found opened log_bytes new_log (Some tail) found keeps =
    let which : header_block tail.which new_log ≡ header_block tail.which log_bytes = tail-kept log_bytes new_log tail.which keeps (which-from tail found.place) in
    record {
      format = found.format;
      place = found.place;
      last = found.last;
      is_last = found.is_last;
      lsn_is = found.lsn_is;
      before = places-kept opened.format opened.shape log_bytes new_log opened.ckpt found.last found.before keeps;
      unread = ap (read_full tail.lsn) (block-kept opened.format opened.shape log_bytes new_log tail.lsn keeps) ∙ found.unread;
      view = found.view;
      fits = ap (read_tail tail.lsn) which ∙ found.fits;
      is_taken = source-kept opened.format opened.shape log_bytes new_log tail.lsn keeps ∙ found.is_taken ∙ ap (λ (bytes : List ℕ). taken_from bytes (Some found.view)) (sym which);
    }

-- so while the pages are rewritten too the opened pages are read
pub kept-head_reads : (opened : Reading) (log_bytes data_bytes new_log new_data : List ℕ) → IsReading log_bytes data_bytes opened → KeepsHead log_bytes new_log
    → IsRewriting opened data_bytes new_data → ReadsOpened opened new_log new_data
kept-head_reads opened log_bytes data_bytes new_log new_data reads keeps rewriting =
    let kept : IsReading new_log data_bytes opened = kept-reads opened log_bytes data_bytes new_log reads keeps in
    again-reads opened new_log data_bytes new_log new_data kept (record {
      long = kept.scan.devices.log_long;
      head = kept.scan.devices.head.head;
      newest = kept.scan.checkpoint;
      scan = record { views = opened.views; scan = kept.scan.scan };
    }) rewriting
