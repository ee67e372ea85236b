-- What every drive owes of its run, from the opened store to the closed one.
use Rattle.std.specs.Prelude.{IfSome, List, None, Some, ℕ, ◌+◌, ◌<◌, ◌≡◌, ◌≢◌, ◌⊎◌}
use Rattle.model_device.specs.{synced, Disk}
use Rattle.model_running.specs.{LeavesOpen}
use Rattle.model_report.specs.{IsLeft}
use Rattle.model_log.specs.{start_after}
use Rattle.model_theorem.specs.{IsClosed, IsHeld, IsRun, IsStart, LosesOnlyByFailure, opened_as, Ran}
use Rattle.model_script.specs.declared.script.ScriptLine.{ScriptLine}
use Rattle.model_parts.specs.{numbers_taken}
use Rattle.model_store.specs.{IsReading, Reading}
use Rattle.redo_disk.specs.{Call, failures, Seen}
use Rattle.redo_disk.specs.declared.error.DevError.TheVariants.{NoMemory}
use Rattle.redo_drive.specs.Startable.{HasReading}
use Rattle.redo_drive.specs.Calls.{CallsOn}
use Rattle.redo_drive.specs.declared.drive.Driven.{Driven}
use Rattle.redo_drive.specs.declared.drive.RunEnd.TheVariants as ended
use Rattle.redo_drive.specs.declared.closed.Closed.{Closed}
use Rattle.redo_store.specs.declared.opened.Opened.{Opened}

-- the history and the marks of the run
abbrev pub closed_run : {L D : Type 0} → ℕ → Closed L D → Ran
closed_run start closed = record { start = start; entries = closed.history; marks = closed.marks }

-- how many calls of the devices failed, the archive's among them: one of each at the most, since a part whose call failed
-- takes no more
abbrev pub failed_in : {L D : Type 0} → Closed L D → ℕ
failed_in closed = failures closed.log.failed + failures closed.store.failed + failures closed.lost

-- No device was without memory, or one failed: then the run was ended by that.
abbrev pub HasMemory : {L D : Type 0} → Closed L D → Type 0
HasMemory closed =
    (closed.log.failed ≡ Some NoMemory) ⊎ (closed.store.failed ≡ Some NoMemory) ⊎ (closed.lost ≡ Some NoMemory)
    → 0 < failed_in closed

-- a call of a device answered an error: the device failed, or it had no memory
abbrev pub HasMetError : {L D : Type 0} → Closed L D → Type 0
HasMetError closed = (closed.log.failed ≢ None) ⊎ (closed.store.failed ≢ None) ⊎ (closed.lost ≢ None)

-- WHAT IT COMES TO, whatever the devices tell: a run, for any end after which it starts; where all users have ended and no
-- device was without memory, it loses something only where a call failed; where the turns are spent, this is the least user
-- of which a line isn't answered.
pub record ComesToRun {L D : Type 0} (log_gives : L → Call → L → Type 0) (data_gives : D → Call → D → Type 0) (opened : Opened L D) (script : List ScriptLine) (driven : Driven L D) : Type 0 where
  pub is_run : (end : ℕ) → opened.start ≡ start_after end
      → IsRun script (record { shape = opened.shape; pages = opened.pages; end = end }) (closed_run opened.start driven.closed)
  pub loses : (left : List (ℕ × ℕ)) → driven.ended ≡ ended.Done → HasMemory driven.closed → IsLeft script driven.closed.history left
      → LosesOnlyByFailure (failed_in driven.closed) (Some (closed_run opened.start driven.closed)) left
  pub spent : (turns user : ℕ) → driven.ended ≡ ended.Spent turns user → LeavesOpen script driven.closed.history (HasMetError driven.closed) user
  pub log_calls : CallsOn log_gives opened.log.dev None driven.closed.log.dev driven.closed.log.failed
  pub data_calls : CallsOn data_gives opened.store.dev None driven.closed.store.dev driven.closed.store.failed

-- This holds of a run before which both devices told, of a store that was ready.
abbrev pub WhereStarted : {L D : Type 0} → (L → Seen) → (D → Seen) → Opened L D → List ScriptLine → (Reading → Type 0) → Type 0
WhereStarted log_seen data_seen opened script Is =
    (reading : Reading) → HasReading reading opened
    → IfSome (log_seen opened.log.dev).tells (λ log_disk. IfSome (data_seen opened.store.dev).tells (λ data_disk.
    IsStart reading script log_disk data_disk → Is reading))

-- and this of what both devices tell after it
abbrev pub WhereRun : {L D : Type 0} → (L → Seen) → (D → Seen) → Opened L D → List ScriptLine → Closed L D
    → (Reading → Disk → Disk → Type 0) → Type 0
WhereRun log_seen data_seen opened script closed Is = WhereStarted log_seen data_seen opened script (λ reading.
    IfSome (log_seen closed.log.dev).tells (λ log_now. IfSome (data_seen closed.store.dev).tells (Is reading log_now)))

-- WHAT A DRIVE LEAVES, whatever ended it: both devices hold the run.
abbrev pub HoldsRun : {L D : Type 0} → (L → Seen) → (D → Seen) → Opened L D → List ScriptLine → Driven L D → Type 0
HoldsRun log_seen data_seen opened script driven =
    WhereRun log_seen data_seen opened script driven.closed (λ reading log_now data_now.
    IsHeld (record {
      script = script;
      opened = opened_as reading;
      number = reading.number + numbers_taken reading.format;
      run = closed_run opened.start driven.closed;
      log_disk = log_now;
      data_disk = data_now;
    }))

-- WHAT A DRIVE LEAVES whose actors hold nothing, and no call of which answered an error: by what reads give the log
-- ends at WRITE, and its newest checkpoint is CKPT.
abbrev pub ReadsToMarks : {L D : Type 0} → (L → Seen) → (D → Seen) → Opened L D → List ScriptLine → Closed L D → Type 0
ReadsToMarks log_seen data_seen opened script closed =
    closed.log.failed ≡ None → closed.store.failed ≡ None
    → WhereRun log_seen data_seen opened script closed (λ was log_now data_now. (reading : Reading)
    → IsReading log_now.reads data_now.reads reading
    → (reading.end ≡ closed.marks.write) × (reading.ckpt ≡ closed.marks.ckpt))

-- WHAT A DRIVE OWES that came to its end and no call of which answered an error, where the devices tell and the store was ready: a
-- sync of both devices would leave a closed run, whose images are what reads give.
abbrev pub IsOwedSynced : {L D : Type 0} → (L → Seen) → (D → Seen) → Opened L D → List ScriptLine → Driven L D → Type 0
IsOwedSynced log_seen data_seen opened script driven =
    driven.closed.log.failed ≡ None → driven.closed.store.failed ≡ None → (reading : Reading) (left : List (ℕ × ℕ)) → driven.ended ≡ ended.Done → HasMemory driven.closed
    → HasReading reading opened → IsLeft script driven.closed.history left
    → IfSome (log_seen opened.log.dev).tells (λ log_disk. IfSome (data_seen opened.store.dev).tells (λ data_disk.
    IsStart reading script log_disk data_disk
    → IfSome (log_seen driven.closed.log.dev).tells (λ log_now. IfSome (data_seen driven.closed.store.dev).tells (λ data_now.
    IsClosed (failed_in driven.closed) (record {
      script = script;
      opened = opened_as reading;
      number = reading.number + numbers_taken reading.format;
      run = closed_run opened.start driven.closed;
      left = left;
      log_disk = synced log_now;
      data_disk = synced data_now;
    })))))

-- ALL THAT A DRIVE OWES of its run.
pub record Owes {L D : Type 0} (log_seen : L → Seen) (log_gives : L → Call → L → Type 0) (data_seen : D → Seen) (data_gives : D → Call → D → Type 0)
    (opened : Opened L D) (script : List ScriptLine) (driven : Driven L D) : Type 0 where
  pub comes_to : ComesToRun log_gives data_gives opened script driven
  pub holds : HoldsRun log_seen data_seen opened script driven
  pub owed_synced : IsOwedSynced log_seen data_seen opened script driven
