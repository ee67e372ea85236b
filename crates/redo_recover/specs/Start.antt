-- Where recovery starts: what the header of a log device says.
use Rattle.std.specs.Prelude.{ℕ, ◌≡◌, ◌≤◌, ◌<◌, ◌%◌, List, Some}
use Rattle.model_base.specs.{IsWithinLimits}
use Rattle.model_base.specs.declared.limits.TheConstants.{BLOCK_SIZE, START_LSN, LSN_LIMIT}
use Rattle.model_base.specs.declared.shape.Shape.{Shape}
use Rattle.model_log.specs.{head_of, layout_of, log_device_length, newest_checkpoint}
use Rattle.model_log.specs.declared.head.Head.TheVariants.{OtherFormat, Unformatted}
use Rattle.model_page.specs.{data_device_length}
use Rattle.model_store.specs.{HasDevices}
use Rattle.redo_recover.specs.declared.fault.RecFault.{RecFault}
use Rattle.redo_recover.specs.declared.fault.RecFault.TheVariants.{SmallLog, SmallData, NotFormatted, BadFormat}
use Rattle.redo_recover.specs.declared.start.Start.{Start}

-- both devices are as long as their header asks, and this is the newest checkpoint
pub record IsRecoveryStart (log_bytes data_bytes : List ℕ) (start : Start) : Type 0 where
  pub devices : HasDevices log_bytes data_bytes start.format start.shape
  pub newest : newest_checkpoint (layout_of start.format start.shape) log_bytes ≡ Some (start.number, start.ckpt)

-- the sizes are within the limits and the devices are long enough for them, and the checkpoint is at the lsn of a block
pub record IsUsable (log_size data_size : ℕ) (shape : Shape) (ckpt : ℕ) : Type 0 where
  pub limits : IsWithinLimits shape
  pub log_long : log_device_length shape ≤ log_size
  pub data_long : data_device_length shape ≤ data_size
  pub aligned : ckpt % BLOCK_SIZE ≡ 0
  pub started : START_LSN ≤ ckpt
  pub small : ckpt < LSN_LIMIT

-- why a header names no shape
abbrev pub IsHeadFault : List ℕ → RecFault → Type 0
IsHeadFault header NotFormatted = head_of header ≡ Unformatted
IsHeadFault header (BadFormat n) = head_of header ≡ OtherFormat n
IsHeadFault header _ = ⊥

-- which device is too short for a shape; the log device is judged first
abbrev pub IsLengthFault : Shape → ℕ → ℕ → RecFault → Type 0
IsLengthFault shape log_size data_size (SmallLog n) = (log_size < log_device_length shape) × (n ≡ log_device_length shape)
IsLengthFault shape log_size data_size (SmallData n) =
    (log_device_length shape ≤ log_size) × (data_size < data_device_length shape) × (n ≡ data_device_length shape)
IsLengthFault shape log_size data_size _ = ⊥
