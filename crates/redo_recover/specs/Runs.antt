-- Groups that are read one after another, not all of them yet.
use Rattle.std.specs.Prelude.{ℕ, ◌≡◌, ◌≤◌, ◌+◌, List, length, drop}
use Rattle.model_base.specs.declared.shape.Shape.{Shape}
use Rattle.model_log.specs.declared.group.Whole.{Whole}
use Rattle.model_log.specs.{last_span_end, sn_of, spans_of}
use Rattle.model_store.specs.{AreGroups}
use Rattle.redo_recover.specs.declared.run.Run.{Run}

-- groups that are read, where the last of them ends, and what is left, whose lsns have room
pub record AreGroupsSoFar (shape : Shape) (bytes : List ℕ) (start : ℕ) (wholes : List Whole) (end : ℕ) (rest : List ℕ) : Type 0 where
  pub groups : AreGroups shape bytes start wholes rest
  pub at : end ≡ last_span_end start (spans_of wholes)
  pub room : sn_of end + length rest ≤ sn_of start + length bytes

-- the groups of the run stand in the data where it says
pub record HasRunGroups (shape : Shape) (bytes : List ℕ) (run : Run) : Type 0 where
  pub within : run.to ≤ length bytes
  pub groups : AreGroupsSoFar shape (drop run.from bytes) run.start run.wholes.items run.end (drop run.to bytes)

-- it is one with which the data begins, at this lsn
pub record IsFrontRun (shape : Shape) (bytes : List ℕ) (start : ℕ) (run : Run) : Type 0 where
  pub is_run : HasRunGroups shape bytes run
  pub first : run.from ≡ 0
  pub at : run.start ≡ start
