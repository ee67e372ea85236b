-- What a crash leaves of the devices of a store that was called.
use Rattle.std.specs.Prelude.{List, Some, [], ℕ}
use Rattle.model_base.specs.{run_shape}
use Rattle.model_report.specs.declared.entry.Entry.{Entry}
use Rattle.model_script.specs.declared.script.ScriptLine.{ScriptLine}
use Rattle.model_store.specs.{IsFair, IsFairLog}
use Rattle.model_theorem.specs.{opened_as}
use Rattle.model_theorem.specs.Run.{ReadsPrefix}
use Rattle.redo_disk.specs.{Seen}
use Rattle.redo_drive.specs.Drive.{closed_run, WhereRun}
use Rattle.redo_ownrule.specs.LiveLeaving.{closed_with}
use Rattle.redo_rule.specs.declared.closing.Left.{Left}
use Rattle.redo_store.specs.declared.opened.Opened.{Opened}

-- WHATEVER A CRASH LEAVES that is fair is read, as the opened pages with the first groups of the history applied whole,
-- which reach every flushed one: where both devices told what they held of a store in order as it was opened, and tell
-- what they hold as it is closed.
abbrev pub IsReadAfterCrash : {L D : Type 0} → (L → Seen) → (D → Seen) → Opened L D → Left L D → List ScriptLine
    → List Entry → Type 0
IsReadAfterCrash log_seen data_seen opened left script history =
    WhereRun log_seen data_seen opened [] (closed_with left history) (λ reading log_now data_now.
    (log data_bytes : List ℕ) → IsFairLog log_now log → IsFair (run_shape reading.shape) data_now data_bytes
    → ReadsPrefix script (opened_as reading) (Some (closed_run opened.start (closed_with left history))) log
    data_bytes)
