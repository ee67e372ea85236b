-- A run, and a running store of it as the definition of a turn sees it.
use Rattle.std.specs.Prelude.{Bool, List}
use Rattle.model_base.specs.declared.shape.Shape.{Shape}
use Rattle.model_core.specs.States as model
use Rattle.model_core.specs.{Core, lsn, DataSide, LogSide, Setup}
use Rattle.redo_disk.specs.{Seen}
use Rattle.redo_drive.specs.DataPartSide as data_part
use Rattle.redo_drive.specs.Lists.{lists_of}
use Rattle.redo_drive.specs.LogPartSide as log_part
use Rattle.redo_drive.specs.declared.parts.Parts.{Parts}
use Rattle.redo_logdev.specs.Part as log
use Rattle.redo_store.specs.Part as store

-- a run: its setup, whether it is a live one, so that lines are handed in while it goes on, its store's shape, and both parts
-- as it began
pub record RunOf (L D : Type 0) : Type 0 where
  pub setup : Setup
  pub live : Bool
  pub shape : Shape
  pub first_log : log.Part L
  pub first_data : store.Part D

module _ {L D : Type 0} (log_seen : L → Seen) (data_seen : D → Seen) where
  -- both parts as the definition of a turn sees them
  abbrev pub run_log_side : RunOf L D → LogSide
  run_log_side run = log_part.log_side log_seen (log_seen run.first_log.dev).faults run.first_log.marks.number
      (log_part.HasBegun log_seen (lsn run.setup.base) run.first_log)

  abbrev pub run_data_side : RunOf L D → DataSide
  run_data_side run = data_part.data_side data_seen (data_seen run.first_data.dev).faults run.shape
      (data_part.HasBegun data_seen run.setup.opened run.first_data)

  -- its state, with these parts and actors
  abbrev pub core_of : (run : RunOf L D) → Parts L D → List model.Actor → Core (run_log_side run) (run_data_side run)
  core_of run parts actors = record {
    layout = parts.words.layout;
    words = parts.words.words;
    log_part = parts.log;
    data_part = parts.store;
    lists = lists_of parts.lists;
    actors = actors;
  }
