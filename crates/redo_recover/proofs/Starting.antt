-- What the header of a log device says, where the device is read by its front.
use Rattle.std.proofs.Common.{◌≡◌, ℕ, ◌+◌, ◌-◌, ◌*◌, ◌≤◌, List, length, take, drop, Option, Some, None, inr, sym, ap, ap₂, ◌∙◌, arith}
use Rattle.std.proofs.lemmas.List.{drop-take, take-take, drop-drop}
use Rattle.model_base.specs.declared.limits.TheConstants.{BLOCK_SIZE}
use Rattle.model_base.specs.declared.shape.Shape.{Shape}
use Rattle.model_log.specs.{head_among, head_of, header_block, layout_of, log_device_length, newer, newest_checkpoint, read_checkpoint, sector_at}
use Rattle.model_log.specs.declared.head.Format.{Format}
use Rattle.model_log.specs.declared.layout.Layout.{Layout}
use Rattle.model_log.specs.declared.layout.TheConstants.{HEADER_BYTES}
use Rattle.model_log.specs.declared.head.Head.TheVariants.{Good, OtherFormat, Unformatted}
use Rattle.model_page.specs.{data_device_length}
use Rattle.model_device.specs.{Disk}
use Rattle.std.specs.Prelude.{IfSome}
use Rattle.model_store.specs.{HasDevices, HasHead, Refuses}
use Rattle.model_store.specs.declared.refusal.Refusal.TheVariants as refusal
use Rattle.redo_disk.specs.{HasSize, part}
use Rattle.redo_recover.specs.Devices.{OnContent, OnContents, HasCauseIn}
use Rattle.redo_recover.specs.Start.{IsHeadFault, IsLengthFault, IsRecoveryStart}
use Rattle.redo_recover.specs.declared.fault.RecFault.{RecFault}
use Rattle.redo_recover.specs.declared.fault.RecFault.TheVariants.{SmallLog, NotFormatted, BadFormat, SmallData, NoCheckpoint}
use Rattle.redo_recover.specs.declared.start.Start.{Start}
use Rattle.redo_recover.proofs.Contents.{content-any, content-both, contents-from}

-- a sector of a stretch is one of the device
pub sector-part : (content : List ℕ) (at count k : ℕ) → k + BLOCK_SIZE ≤ count → sector_at k (part content at count) ≡ sector_at (at + k) content
sector-part content at count k within =
    let rest : count ≡ k + (count - k) = omega arith in
    ap (λ n. take BLOCK_SIZE (drop k (take n (drop at content)))) rest
    ∙ ap (take BLOCK_SIZE) (drop-take k (count - k) (drop at content))
    ∙ take-take BLOCK_SIZE (count - k) (drop k (drop at content)) (omega arith)
    ∙ ap (take BLOCK_SIZE) (drop-drop k at content)

pub header-front : (which : ℕ) (header content : List ℕ) → BLOCK_SIZE * which + BLOCK_SIZE ≤ HEADER_BYTES → header ≡ part content 0 HEADER_BYTES
    → header_block which header ≡ header_block which content
header-front which header content within is =
    ap (header_block which) is ∙ sector-part content 0 HEADER_BYTES (BLOCK_SIZE * which) within ∙ ap (λ n. sector_at n content) (omega arith)

pub head-front : (header content : List ℕ) → header ≡ part content 0 HEADER_BYTES → head_of header ≡ head_of content
head-front header content is =
    ap₂ head_among (header-front 0 header content (omega arith) is) (header-front 2 header content (omega arith) is)

pub newest-front : (layout : Layout) (header content : List ℕ) → header ≡ part content 0 HEADER_BYTES → newest_checkpoint layout header ≡ newest_checkpoint layout content
newest-front layout header content is =
    ap₂ (λ first second. newer (read_checkpoint 1 layout first) (read_checkpoint 3 layout second))
    (header-front 1 header content (omega arith) is) (header-front 3 header content (omega arith) is)

-- these are the first bytes of a device of this size
pub record IsHeaderOf (size : ℕ) (header content : List ℕ) : Type 0 where
  pub front : header ≡ part content 0 HEADER_BYTES
  pub sized : length content ≡ size

pub sized : (told : Option Disk) (size : ℕ) → IfSome told (HasSize size) → OnContent told (λ content. length content ≡ size)
sized None size known = tt
sized (Some disk) size known = known.reads

pub header-of : (told : Option Disk) (size : ℕ) (header : List ℕ) → IfSome told (HasSize size) → OnContent told (λ content. header ≡ part content 0 HEADER_BYTES)
    → OnContent told (IsHeaderOf size header)
header-of told size header known is =
    content-both told (λ content. length content ≡ size) (λ content. header ≡ part content 0 HEADER_BYTES) (IsHeaderOf size header)
    (λ content long front. record { front = front; sized = long }) (sized told size known) is

-- WHY NO SCAN STARTS

pub head-cause : (log data_told : Option Disk) (size : ℕ) (header : List ℕ) (fault : RecFault) → OnContent log (IsHeaderOf size header) → HEADER_BYTES ≤ size
    → IsHeadFault header fault → HasCauseIn log data_told fault
head-cause log data_told size header NotFormatted known long is =
    contents-from log data_told (IsHeaderOf size header) (λ content. Unit {0})
    (λ log_bytes data_bytes. (HEADER_BYTES ≤ length log_bytes) × (head_of log_bytes ≡ Unformatted))
    (λ log_bytes data_bytes of any. (omega (arith, of.sized), sym (head-front header log_bytes of.front) ∙ is))
    known (content-any data_told (λ content. Unit {0}) (λ content. tt))
head-cause log data_told size header (BadFormat n) known long is =
    contents-from log data_told (IsHeaderOf size header) (λ content. Unit {0})
    (λ log_bytes data_bytes. (HEADER_BYTES ≤ length log_bytes) × (head_of log_bytes ≡ OtherFormat n))
    (λ log_bytes data_bytes of any. (omega (arith, of.sized), sym (head-front header log_bytes of.front) ∙ is))
    known (content-any data_told (λ content. Unit {0}) (λ content. tt))
head-cause log data_told size header _ known long none = absurd none

-- what a header that names a shape says of the device
has_head : (size : ℕ) (header log_bytes : List ℕ) (format : Format) (shape : Shape) → HEADER_BYTES ≤ size → IsHeaderOf size header log_bytes
    → head_of header ≡ Good format shape → HasHead log_bytes format shape
has_head size header log_bytes format shape long of is = record {
  long = omega (arith, of.sized);
  head = sym (head-front header log_bytes of.front) ∙ is;
}

pub length-cause : (log data_told : Option Disk) (log_size data_size : ℕ) (header : List ℕ) (format : Format) (shape : Shape) (fault : RecFault)
    → OnContent log (IsHeaderOf log_size header) → OnContent data_told (λ content. length content ≡ data_size) → HEADER_BYTES ≤ log_size
    → head_of header ≡ Good format shape → IsLengthFault shape log_size data_size fault → HasCauseIn log data_told fault
length-cause log data_told log_size data_size header format shape (SmallLog n) known other long head is =
    contents-from log data_told (IsHeaderOf log_size header) (λ content. length content ≡ data_size)
    (λ log_bytes data_bytes. Refuses log_bytes data_bytes (refusal.SmallLog n))
    (λ log_bytes data_bytes of same. inr (format, shape, has_head log_size header log_bytes format shape long of head, omega (arith, of.sized, is.0), is.1))
    known other
length-cause log data_told log_size data_size header format shape (SmallData n) known other long head is =
    contents-from log data_told (IsHeaderOf log_size header) (λ content. length content ≡ data_size)
    (λ log_bytes data_bytes. Refuses log_bytes data_bytes (refusal.SmallData n))
    (λ log_bytes data_bytes of same. (format, shape, has_head log_size header log_bytes format shape long of head, omega (arith, of.sized, is.0), omega (arith, same, is.1), is.2))
    known other
length-cause log data_told log_size data_size header format shape _ known other long head none = absurd none

-- WHERE A SCAN STARTS

-- the header names a shape, and both devices are as long as that asks
pub record IsSound (log_size data_size : ℕ) (header : List ℕ) (format : Format) (shape : Shape) : Type 0 where
  pub long : HEADER_BYTES ≤ log_size
  pub head : head_of header ≡ Good format shape
  pub log_long : log_device_length shape ≤ log_size
  pub data_long : data_device_length shape ≤ data_size

devices : (log_size data_size : ℕ) (header log_bytes data_bytes : List ℕ) (format : Format) (shape : Shape) → IsSound log_size data_size header format shape
    → IsHeaderOf log_size header log_bytes → length data_bytes ≡ data_size → HasDevices log_bytes data_bytes format shape
devices log_size data_size header log_bytes data_bytes format shape sound of same = record {
  head = has_head log_size header log_bytes format shape sound.long of sound.head;
  log_long = omega (arith, of.sized, sound.log_long);
  data_long = omega (arith, same, sound.data_long);
}

pub checkpoint-cause : (log data_told : Option Disk) (log_size data_size : ℕ) (header : List ℕ) (format : Format) (shape : Shape) → OnContent log (IsHeaderOf log_size header)
    → OnContent data_told (λ content. length content ≡ data_size) → IsSound log_size data_size header format shape → newest_checkpoint (layout_of format shape) header ≡ None
    → HasCauseIn log data_told NoCheckpoint
checkpoint-cause log data_told log_size data_size header format shape known other sound none =
    contents-from log data_told (IsHeaderOf log_size header) (λ content. length content ≡ data_size)
    (λ log_bytes data_bytes. Refuses log_bytes data_bytes refusal.NoCheckpoint)
    (λ log_bytes data_bytes of same. (format, shape, devices log_size data_size header log_bytes data_bytes format shape sound of same, sym (newest-front (layout_of format shape) header log_bytes of.front) ∙ none))
    known other

pub starts : (log data_told : Option Disk) (log_size data_size : ℕ) (header : List ℕ) (start : Start) → OnContent log (IsHeaderOf log_size header)
    → OnContent data_told (λ content. length content ≡ data_size) → IsSound log_size data_size header start.format start.shape
    → newest_checkpoint (layout_of start.format start.shape) header ≡ Some (start.number, start.ckpt) → OnContents log data_told (λ log_bytes data_bytes. IsRecoveryStart log_bytes data_bytes start)
starts log data_told log_size data_size header start known other sound newest =
    contents-from log data_told (IsHeaderOf log_size header) (λ content. length content ≡ data_size)
    (λ log_bytes data_bytes. IsRecoveryStart log_bytes data_bytes start)
    (λ log_bytes data_bytes of same. record {
      devices = devices log_size data_size header log_bytes data_bytes start.format start.shape sound of same;
      newest = sym (newest-front (layout_of start.format start.shape) header log_bytes of.front) ∙ newest;
    })
    known other
