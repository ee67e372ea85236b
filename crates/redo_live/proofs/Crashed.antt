-- What a crash leaves of the devices of a store that was called.
use Rattle.std.proofs.Common.{List, Some, [], subst, ℕ, ◌+◌}
use Rattle.std.proofs.lemmas.Option.{IfSome_then}
use Rattle.std.specs.List.{AllByRecursion}
use Rattle.model_base.specs.declared.shape.Shape.{Shape}
use Rattle.model_device.specs.{Disk}
use Rattle.model_parts.specs.{numbers_taken}
use Rattle.model_script.specs.{LineFits}
use Rattle.model_store.specs.{IsFair, IsFairLog, Reading}
use Rattle.model_theorem.specs.{IsStart, opened_as}
use Rattle.model_theorem.specs.Closed.{Held, IsHeld}
use Rattle.model_theorem.specs.Run.{ReadsPrefix}
use Rattle.redo_disk.specs.{Call, Seen}
use Rattle.redo_drive.specs.Drive.{closed_run}
use Rattle.redo_drive.specs.{HasReading}
use Rattle.redo_live.specs.Closing.{LeavesStore}
use Rattle.redo_live.specs.Crashed.{IsReadAfterCrash}
use Rattle.redo_live.specs.declared.store.Store.{Store}
use Rattle.redo_live.specs.declared.user.User.{User}
use Rattle.redo_ownrule.specs.LiveLeaving.{closed_with}
use Rattle.redo_ownrule.specs.Sharing.{opened_of}
use Rattle.redo_rule.specs.declared.closing.Left.{Left}

-- devices that hold a run are read so
abbrev HeldReads : Type 0
HeldReads = (held : Held) (log data_bytes : List ℕ) → IsHeld held → IsFairLog held.log_disk log
    → IsFair held.opened.shape held.data_disk data_bytes
    → ReadsPrefix held.script held.opened (Some held.run) log data_bytes

module _ {L D : Type 0} (log_seen : L → Seen) (log_gives : L → Call → L → Type 0) (data_seen : D → Seen)
    (data_gives : D → Call → D → Type 0) (store : Store L D) (users : List (User L D)) (left : Left L D)
    (leaves : LeavesStore log_seen log_gives data_seen data_gives store users left) where
  -- a store that was ready for a run without lines was ready for this one, each line of which fits it
  started : (reading : Reading) (log_disk data_disk : Disk) → HasReading reading (opened_of store.shared)
      → IsStart reading [] log_disk data_disk → IsStart reading leaves.leaves.script log_disk data_disk
  started reading log_disk data_disk has start = record {
    log_bytes = start.log_bytes;
    data_bytes = start.data_bytes;
    orderly = start.orderly;
    ready = start.ready;
    fits = subst (λ (s : Shape). AllByRecursion (LineFits s) leaves.leaves.script) has.shape leaves.leaves.fits;
  }

  pub is_read_after_crash : HeldReads → IsReadAfterCrash log_seen data_seen (opened_of store.shared) left
      leaves.leaves.script leaves.leaves.history
  is_read_after_crash reads reading has =
      IfSome_then (log_seen (opened_of store.shared).log.dev).tells (leaves.leaves.owed.holds reading has)
      (λ log_disk told. IfSome_then (data_seen (opened_of store.shared).store.dev).tells told
      (λ data_disk runs start. IfSome_then (log_seen left.log.dev).tells
      (runs (started reading log_disk data_disk has start))
      (λ log_now tells. IfSome_then (data_seen left.store.dev).tells tells
      (λ data_now held log data_bytes fair_log fair. reads (record {
        script = leaves.leaves.script;
        opened = opened_as reading;
        number = reading.number + numbers_taken reading.format;
        run = closed_run (opened_of store.shared).start (closed_with left leaves.leaves.history);
        log_disk = log_now;
        data_disk = data_now;
      }) log data_bytes held fair_log fair))))
