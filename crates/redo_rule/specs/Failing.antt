-- What a code of a failure says of the devices.
use Rattle.std.specs.Prelude.{Option, Some, ℕ, ◌≡◌, ◌≤◌, ◌⊎◌}
use Rattle.model_base.specs.{HasRisen}
use Rattle.model_core.specs.{archive_device_code, data_device_code, log_device_code, no_memory_code}
use Rattle.redo_disk.specs.{Seen}
use Rattle.redo_disk.specs.declared.error.DevError.{DevError}
use Rattle.redo_disk.specs.declared.error.DevError.TheVariants.{Failed, NoMemory}
use Rattle.redo_logdev.specs.Part as log
use Rattle.redo_store.specs.Part as store

-- THE CODE HAS ITS CAUSE, as both parts were and are, and by what an append to the archive has met: 1 comes only where the log
-- device's count of faults rose, 2 only where the data device's did, 4 only where the archive's device failed, and 3 only where
-- a device had no memory. No other comes.
pub record CodeHasCause {L D : Type 0} (log_seen : L → Seen) (data_seen : D → Seen) (code : ℕ) (log_was log_now : log.Part L)
    (data_was data_now : store.Part D) (lost : Option DevError) : Type 0 where
  pub log : code ≡ log_device_code → HasRisen (log_seen log_was.dev).faults (log_seen log_now.dev).faults
  pub data_part : code ≡ data_device_code → HasRisen (data_seen data_was.dev).faults (data_seen data_now.dev).faults
  pub archive : code ≡ archive_device_code → lost ≡ Some Failed
  pub memory : code ≡ no_memory_code
      → (log_now.failed ≡ Some NoMemory) ⊎ (data_now.failed ≡ Some NoMemory) ⊎ (lost ≡ Some NoMemory)
  pub no_other : code ≤ archive_device_code
