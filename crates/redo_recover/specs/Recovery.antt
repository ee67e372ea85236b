-- What recovery answers of two devices, and what it does to them.
use Rattle.std.specs.Prelude.{Result, IfOk, IfErr, IfSome}
use Rattle.model_log.specs.{IsStop, layout_of}
use Rattle.model_store.specs.{AreFoundIn, IsReading}
use Rattle.redo_disk.specs.{Call, HasSize, Seen}
use Rattle.redo_recover.specs.Devices.{HasCauseIn, HasLengthCause, OnContent, OnContents, reread, IsLogRead, IsOnlyRead, data_error_of, log_error_of}
use Rattle.redo_recover.specs.Pages.{AreFoundOn}
use Rattle.redo_recover.specs.Reading.{IsOfDevices, reading_of}
use Rattle.redo_recover.specs.declared.fault.RecFault.{RecFault}
use Rattle.redo_recover.specs.declared.recovered.Recovered.{Recovered}

-- This was recovered: where the devices tell, it is the reading of what reads give, the pages stood there, the blocks end there
-- and for that cause, and the last of them stands in that tail block or in its place; and what is known whatever they tell.
pub record IsRecovered (log data_device : Seen) (recovered : Recovered) : Type 0 where
  pub read : OnContents log.tells data_device.tells (λ log_bytes data_bytes. IsReading log_bytes data_bytes (reading_of recovered))
  pub found : OnContent data_device.tells (AreFoundOn recovered.shape recovered.places recovered.pages)
  pub stop : OnContent log.tells (IsStop (layout_of recovered.format recovered.shape) recovered.ckpt recovered.views.items recovered.stop)
  pub tail : OnContent log.tells (λ log_bytes. AreFoundIn (layout_of recovered.format recovered.shape) log_bytes recovered.ckpt recovered.views.items recovered.tail)
  pub sized : IfSome data_device.tells (HasSize data_device.size)
  pub of_devices : IsOfDevices log.size data_device.size recovered

-- the fault has its cause
pub record IsCaused (log data_device : Seen) (fault : RecFault) : Type 0 where
  pub lengths : HasLengthCause log.size data_device.size fault
  pub cause : HasCauseIn log.tells data_device.tells fault

-- THE STORE IS READ OFF ITS TWO DEVICES, or there is a cause why it isn't, and both devices are read and nothing else. What is
-- said of bytes is said where both devices still tell.
pub record Recovers {L D : Type 0} (log_seen : L → Seen) (log_gives : L → Call → L → Type 0) (data_seen : D → Seen) (data_gives : D → Call → D → Type 0)
    (log_old log_new : L) (data_old data_new : D) (result : Result Recovered RecFault) : Type 0 where
  pub recovered : IfOk result (IsRecovered (reread (log_seen log_old) (log_seen log_new)) (reread (data_seen data_old) (data_seen data_new)))
  pub caused : IfErr result (IsCaused (reread (log_seen log_old) (log_seen log_new)) (reread (data_seen data_old) (data_seen data_new)))
  pub log : IsLogRead log_seen log_gives log_old (log_error_of result) log_new
  pub data_device : IsOnlyRead data_seen data_gives data_old (data_error_of result) data_new
