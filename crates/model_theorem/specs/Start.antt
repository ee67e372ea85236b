-- The start of a run on a store that opening made ready.
use Rattle.std.specs.Prelude.{ℕ, ◌+◌, List, []}
use Rattle.std.specs.List.{AllByRecursion}
use Rattle.model_base.specs.{run_shape}
use Rattle.model_device.specs.{Disk}
use Rattle.model_store.specs.{IsOrderly, Reading}
use Rattle.model_parts.specs.{IsReady, numbers_taken, start_block, start_of}
use Rattle.model_script.specs.{LineFits}
use Rattle.model_script.specs.declared.script.ScriptLine.{ScriptLine}
use Rattle.model_theorem.specs.Run.{Opened}
use Rattle.model_theorem.specs.Closed.{Closed}

-- a store that was read as this, as it is opened
abbrev pub opened_as : Reading → Opened
opened_as reading = record { shape = run_shape reading.shape; pages = reading.pages; end = reading.end }

-- The store was in order and read as this before it was opened; now its devices are ready for a run; and each line of the
-- script fits it.
pub record IsStart (reading : Reading) (script : List ScriptLine) (log_disk data_disk : Disk) : Type 0 where
  pub log_bytes : List ℕ
  pub data_bytes : List ℕ
  pub orderly : IsOrderly log_bytes data_bytes reading
  pub ready : IsReady reading log_disk data_disk
  pub fits : AllByRecursion (LineFits (run_shape reading.shape)) script

-- what a run comes to that plays no line on it
abbrev pub unplayed : Reading → List ScriptLine → List (ℕ × ℕ) → Disk → Disk → Closed
unplayed reading script left log_disk data_disk = record {
  script = script;
  opened = opened_as reading;
  number = reading.number + numbers_taken reading.format;
  run = record {
    start = start_of reading;
    entries = [];
    marks = record { wtail = start_of reading; write = start_of reading; flushed = start_of reading; ckpt = start_block reading };
  };
  left = left;
  log_disk = log_disk;
  data_disk = data_disk;
}
