-- A store that was opened: a run can start on it.
use Rattle.std.specs.Prelude.{◌+◌, [], false}
use Rattle.model_base.specs.{run_shape}
use Rattle.model_base.specs.declared.shape.Shape.{Shape}
use Rattle.model_device.specs.{Disk}
use Rattle.model_store.specs.{Reading}
use Rattle.model_parts.specs.Held.{IsFresh}
use Rattle.model_parts.specs.Stored.{IsUpTo, Stored, read_as}
use Rattle.model_parts.specs.Opened.{numbers_taken, start_of}

-- Of this shape the log device has the last checkpoint of opening where the run starts, and nothing is read from there on; each
-- place of the data device holds its page as it was read, nothing is pending, and no copy is ahead of its page.
pub record IsReadyBy (shape : Shape) (opened : Reading) (log_disk data_disk : Disk) : Type 0 where
  pub log : IsFresh shape (start_of opened) (opened.number + numbers_taken opened.format) log_disk
  pub pages : Stored shape (IsUpTo (read_as opened)) (read_as opened) [] false data_disk

-- a run can start: they are so of its shape
abbrev pub IsReady : Reading → Disk → Disk → Type 0
IsReady opened log_disk data_disk = IsReadyBy (run_shape opened.shape) opened log_disk data_disk
