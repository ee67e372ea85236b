-- What a run leaves of its actors, with what their seats have heard.
use Rattle.std.specs.Prelude.{List, ℕ, ◌≡◌}
use Rattle.std.specs.List.{AllByRecursion}
use lib.ListN.{get_elem?}
use mathlib.Core.Option.{some}
use Rattle.atomic_table.specs.declared.shared.Seat.{Seat}
use Rattle.model_core.specs.{Given}
use Rattle.model_script.specs.declared.script.ScriptLine.{ScriptLine}
use Rattle.redo_disk.specs.{Call, Seen}
use Rattle.redo_drive.specs.Leaving.{LeavesWith}
use Rattle.redo_drive.specs.{run_log_side, views_of}
use Rattle.redo_drive.specs.declared.actor.Actor.{Actor}
use Rattle.redo_drive.specs.declared.closed.Closed.{Closed}
use Rattle.redo_drive.specs.declared.plan.Plan.{Plan}
use Rattle.redo_rule.specs.Handing.{HaveLoaded, IsOfRun}
use Rattle.redo_rule.specs.Mine.{heard_of}
use Rattle.redo_rule.specs.declared.law.Slot.{Slot}
use Rattle.redo_rule.specs.declared.law.View.{View}
use Rattle.redo_store.specs.declared.opened.Opened.{Opened}

-- The run began with the first of these actors and came to the others. No reader of the log has loaded more than FLUSHED has;
-- and where the log device tells, the blocks that a seat has heard of are the run's.
pub record LeavesHeard {L D R : Type 0} (log_seen : L → Seen) (log_gives : L → Call → L → Type 0) (data_seen : D → Seen)
    (data_gives : D → Call → D → Type 0) (stands : R → List Given → Type 0) (opened : Opened L D) (script : List ScriptLine)
    (plan : Plan) (starts actors : List (Actor R)) (seats : List (Seat (Slot L D) (View L D)))
    (closed : Closed L D) : Type 0 where
  pub by : LeavesWith log_seen log_gives data_seen data_gives stands opened script plan starts actors closed
  pub loaded : HaveLoaded by.last.words.words (views_of actors)
  pub blocks : (run_log_side log_seen data_seen by.run).Tells by.last.log → (i : ℕ) (seat : Seat (Slot L D) (View L D))
      → get_elem? seats i ≡ some seat
      → AllByRecursion (IsOfRun (run_log_side log_seen data_seen by.run) by.run.setup.base by.from.runs.running.log_ghost.log)
      (heard_of seat.me.0).blocks
