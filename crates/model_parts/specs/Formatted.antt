-- What stands on a device before it is opened or formatted, and until that comes to its end; and a store that was just
-- formatted.
use Rattle.std.specs.Prelude.{ℕ, ◌≡◌, ◌≢◌, ◌⊎◌, List, length, Some, ◌+◌, []}
use Rattle.model_base.specs.declared.shape.Shape.{Shape}
use Rattle.model_device.specs.{sector, IsImage, Disk}
use Rattle.model_log.specs.{head_of, newest_checkpoint, run_layout, run_format}
use Rattle.model_log.specs.declared.head.Format.{Format}
use Rattle.model_log.specs.declared.head.Format.TheVariants.{Three}
use Rattle.model_log.specs.declared.head.Head.TheVariants.{Good}
use Rattle.model_base.specs.declared.limits.TheConstants.{START_LSN}
use Rattle.model_log.specs.declared.layout.TheConstants.{BLOCK_HEADER}
use Rattle.model_page.specs.{blank_pages}
use Rattle.model_store.specs.{IsFairLog, IsOrderly, Refuses, Reading}
use Rattle.model_store.specs.declared.refusal.Refusal.TheVariants.{NotFormatted}

-- Opening hasn't come to its end, as these bytes of the log device tell: their header is of an earlier format than that of
-- runs, whose header comes last; or the newest checkpoint is the one that was found.
pub record IsUnopened (shape : Shape) (number ckpt : ℕ) (bytes : List ℕ) : Type 0 where
  pub format : Format
  pub head : head_of bytes ≡ Good format shape
  pub still : (format ≢ Three) ⊎ (newest_checkpoint (run_layout shape) bytes ≡ Some (number, ckpt))

-- all but the two header blocks is as it was, and they say the same
pub record KeepsHead (old new : List ℕ) : Type 0 where
  pub same_length : length new ≡ length old
  pub head : head_of new ≡ head_of old
  pub others : (k : ℕ) → k ≢ 0 → k ≢ 2 → sector k new ≡ sector k old

-- what is read of both: an empty log from the first checkpoint on, and blank pages
abbrev pub formatted_store : Shape → Reading
formatted_store shape = record {
  format = run_format shape;
  shape = shape;
  number = 0;
  ckpt = START_LSN;
  views = [];
  wholes = [];
  end = START_LSN + BLOCK_HEADER;
  pages = blank_pages shape;
}

-- The bytes are those that a crash might have left before, or that reads gave, but for a header block that isn't read.
pub record IsStillBefore (log_before data_before : Disk) (log_bytes data_bytes : List ℕ) : Type 0 where
  pub was : List ℕ
  pub log : IsFairLog log_before was ⊎ (was ≡ log_before.reads)
  pub kept : KeepsHead was log_bytes
  pub pages : IsImage data_before data_bytes

-- The bytes of the two devices are those of before, or they are no store, or they are a formatted one, which is in order.
abbrev pub MayBeFormatted : Shape → (log_before data_before : Disk) → (log_bytes data_bytes : List ℕ) → Type 0
MayBeFormatted shape log_before data_before log_bytes data_bytes =
    IsStillBefore log_before data_before log_bytes data_bytes
    ⊎ Refuses log_bytes data_bytes NotFormatted
    ⊎ IsOrderly log_bytes data_bytes (formatted_store shape)

-- FORMATTING LEAVES NO STORE BUT THE NEW ONE: so it is with whatever a crash leaves of the two devices.
abbrev pub KeepsNoStore : Shape → (log_before data_before log_disk data_disk : Disk) → Type 0
KeepsNoStore shape log_before data_before log_disk data_disk =
    (log_bytes data_bytes : List ℕ) → IsFairLog log_disk log_bytes → IsImage data_disk data_bytes
    → MayBeFormatted shape log_before data_before log_bytes data_bytes
