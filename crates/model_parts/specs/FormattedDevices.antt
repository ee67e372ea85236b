-- What both devices hold once they are formatted.
use Rattle.std.specs.Prelude.{ℕ, ◌≡◌, ◌≤◌, ◌<◌, ◌*◌, List, length, replicate}
use Rattle.model_base.specs.declared.shape.Shape.{Shape}
use Rattle.model_base.specs.declared.limits.TheConstants.{BLOCK_SIZE, START_LSN}
use Rattle.model_device.specs.{sector, Disk}
use Rattle.model_log.specs.{checkpoint_text, head_text, log_device_length, run_format, run_layout}
use Rattle.model_page.specs.{data_device_length}
use Rattle.model_parts.specs.Opened.{IsAtRest}
use Rattle.model_parts.specs.Held.{IsHeadPlace}

-- a block of zeros
abbrev pub zero_block : List ℕ
zero_block = replicate BLOCK_SIZE 0

-- the bytes of the log device: the header in its two blocks, the first checkpoint, and zeros in all other blocks
pub record IsFormattedLog (shape : Shape) (bytes : List ℕ) : Type 0 where
  pub long : log_device_length shape ≤ length bytes
  pub heads : (k : ℕ) → IsHeadPlace k → sector k bytes ≡ head_text (run_format shape) shape
  pub checkpoint : sector 1 bytes ≡ checkpoint_text 0 START_LSN (run_layout shape)
  pub blocks : (k : ℕ) → 3 ≤ k → BLOCK_SIZE * k < log_device_length shape → sector k bytes ≡ zero_block

-- those of the data device: zeros
pub record IsFormattedData (shape : Shape) (bytes : List ℕ) : Type 0 where
  pub long : data_device_length shape ≤ length bytes
  pub zeros : (k : ℕ) → BLOCK_SIZE * k < data_device_length shape → sector k bytes ≡ zero_block

-- Both devices are at rest, and hold a formatted store.
pub record IsFormatted (shape : Shape) (log_disk data_disk : Disk) : Type 0 where
  pub log_rests : IsAtRest log_disk
  pub data_rests : IsAtRest data_disk
  pub log : IsFormattedLog shape log_disk.reads
  pub pages : IsFormattedData shape data_disk.reads
