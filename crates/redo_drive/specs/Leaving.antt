-- What a run leaves, however its Ops were interleaved: from this the closed run follows, by turns and in threads alike.
use Rattle.std.specs.Prelude.{Bool, IfSome, List, cond, false, slice_index, ℕ, ◌≡◌}
use Rattle.model_core.specs.{Given, HasLost, failed_at}
use Rattle.model_running.specs.{history_of, marks_in, word_marks}
use Rattle.model_theorem.specs.{IsStart}
use Rattle.model_script.specs.declared.script.ScriptLine.{ScriptLine}
use Rattle.model_store.specs.{Reading}
use Rattle.redo_archiver.specs.{append_code}
use Rattle.redo_disk.specs.{Call, Seen}
use Rattle.redo_drive.specs.Beginning.{HaveBegun, IsRunWith}
use Rattle.redo_drive.specs.Startable.{HasReading}
use Rattle.redo_drive.specs.Calls.{CallsOn}
use Rattle.redo_drive.specs.Running.{RunOf, RunsFromWith}
use Rattle.redo_drive.specs.History.{views_of}
use Rattle.redo_drive.specs.declared.actor.Actor.{Actor}
use Rattle.redo_drive.specs.declared.parts.Parts.{Parts}
use Rattle.redo_drive.specs.declared.plan.Plan.{Plan}
use Rattle.redo_drive.specs.declared.closed.Closed.{Closed}
use Rattle.redo_store.specs.declared.opened.Opened.{Opened}

-- The run of the script on the opened store, a live one or not, by this plan, began with the first of these actors and came to
-- the others, and the closed store is what they and its parts tell.
pub record LeavesAs {L D R : Type 0} (log_seen : L → Seen) (log_gives : L → Call → L → Type 0) (data_seen : D → Seen) (data_gives : D → Call → D → Type 0)
    (stands : R → List Given → Type 0) (opened : Opened L D) (script : List ScriptLine) (live : Bool)
    (plan : Plan) (starts actors : List (Actor R)) (closed : Closed L D) : Type 0 where
  pub run : RunOf L D
  pub is_run : IsRunWith opened script live plan run
  pub begun : (reading : Reading) → HasReading reading opened
      → IfSome (log_seen opened.log.dev).tells (λ log_disk. IfSome (data_seen opened.store.dev).tells (λ data_disk.
      IsStart reading script log_disk data_disk → HaveBegun log_seen data_seen run))
  pub last : Parts L D
  pub from : RunsFromWith log_seen data_seen stands run plan.archive starts last actors
  pub log_calls : CallsOn log_gives opened.log.dev opened.log.failed last.log.dev last.log.failed
  pub data_calls : CallsOn data_gives opened.store.dev opened.store.failed last.store.dev last.store.failed
  pub log_shape : last.log.shape ≡ opened.log.shape
  pub log : closed.log ≡ last.log
  pub data_part : closed.store ≡ last.store
  pub marks : closed.marks ≡ marks_in last.words.words
  pub code : closed.code ≡ slice_index last.words.words failed_at
  pub history : closed.history ≡ history_of from.runs.running.log_ghost.answered (word_marks from.runs.running.shared) from.runs.running.log_ghost.log
  -- an archiver that has lost its archive did so by the error that the append has met
  pub lost : cond plan.archive ((code : ℕ) → HasLost (views_of actors) code → code ≡ append_code closed.lost) (Unit {0})

-- and so a run that was told its script as it began
abbrev pub LeavesWith : {L D R : Type 0} → (L → Seen) → (L → Call → L → Type 0) → (D → Seen) → (D → Call → D → Type 0)
    → (R → List Given → Type 0) → Opened L D → List ScriptLine → Plan → (starts actors : List (Actor R)) → Closed L D
    → Type 0
LeavesWith log_seen log_gives data_seen data_gives stands opened script plan starts actors closed =
    LeavesAs log_seen log_gives data_seen data_gives stands opened script false plan starts actors closed
