-- What a live run leaves. Its script is what was handed in to its users while it went on.
use Rattle.std.specs.Prelude.{Bool, List, None, Some, false, length, slice_get, slice_index, ℕ, ◌<◌, ◌≡◌, ◌≢◌}
use Rattle.std.specs.List.{AllByRecursion}
use lib.ListN.{get_elem?}
use mathlib.Core.Option.{some}
use Rattle.model_core.specs.{lsn, UserState}
use Rattle.model_core.specs.States as model
use Rattle.model_log.specs.{start_after}
use Rattle.model_reads.specs.{IsReadEndOf}
use Rattle.model_reads.specs.declared.read.ReadEnd.{ReadEnd}
use Rattle.model_report.specs.{entries_of_user, wholes_of}
use Rattle.model_report.specs.declared.entry.Entry.{Entry}
use Rattle.model_report.specs.declared.entry.State.TheVariants.{Lost}
use Rattle.model_running.specs.Script.{HasSeats}
use Rattle.model_script.specs.{IsScriptLine, LineFits}
use Rattle.model_script.specs.declared.script.ScriptLine.{ScriptLine}
use Rattle.model_theorem.specs.{IsRun}
use Rattle.redo_disk.specs.{Call}
use Rattle.redo_disk.specs.Sight.{Seen}
use Rattle.redo_drive.specs.Drive.{closed_run}
use Rattle.redo_drive.specs.History.{listed}
use Rattle.redo_drive.specs.Setups.{programs_of}
use Rattle.redo_drive.specs.declared.closed.Closed.{Closed}
use Rattle.redo_rule.specs.Closing.{IsOwedRun}
use Rattle.redo_rule.specs.Failing.{CodeHasCause}
use Rattle.redo_rule.specs.Reached.{ReachesAll}
use Rattle.redo_rule.specs.declared.closing.Left.{Left}
use Rattle.redo_store.specs.declared.opened.Opened.{Opened}

-- what a table leaves, with its run's history, where nothing was archived
abbrev pub closed_with : {L D : Type 0} → Left L D → List Entry → Closed L D
closed_with left history = record {
  history = history;
  marks = left.marks;
  log = left.log;
  store = left.store;
  code = left.code;
  lost = None;
}

-- A user's commit was answered: the history has it, from where the user reserved its group on, and it isn't lost.
pub record IsKept (history : List Entry) (u : UserState) (k : ℕ) : Type 0 where
  pub entry : Entry
  pub is : slice_get (entries_of_user u.user history) k ≡ Some entry
  pub start : entry.start ≡ lsn (slice_index u.starts k)
  pub kept : entry.state ≢ Lost

-- WHAT A LIVE RUN LEAVES, in which the actors' reads came to this, by their numbers: of some script, made of just what its users were
-- handed in, each line of which fits the store, it is a run with some history, which both devices hold.
pub record LeavesLive {L D : Type 0} (log_seen : L → Seen) (log_gives : L → Call → L → Type 0) (data_seen : D → Seen)
    (data_gives : D → Call → D → Type 0) (opened : Opened L D) (log_only : Bool) (actors : List model.Actor)
    (reads : ℕ → List ReadEnd) (left : Left L D) : Type 0 where
  pub script : List ScriptLine
  pub lines : AllByRecursion IsScriptLine script
  pub fits : AllByRecursion (LineFits opened.shape) script
  -- a user has its lines of the script, and each line is one of a user's
  pub of_user : (seat : ℕ) (u : UserState) → get_elem? actors seat ≡ some (model.User u)
      → u.lines ≡ programs_of opened.shape log_only script u.user
  pub no_other : HasSeats script actors
  pub history : List Entry
  -- the history has of each user just what the user tells of its groups
  pub of_groups : (seat : ℕ) (u : UserState) → get_elem? actors seat ≡ some (model.User u)
      → entries_of_user u.user history ≡ listed left.marks (model.User u)
  pub is_kept : (seat : ℕ) (u : UserState) → get_elem? actors seat ≡ some (model.User u)
      → (k : ℕ) → k < length u.starts → k < u.k → IsKept history u k
  -- where lines change pages, what each read came to holds of the run
  pub are_read : log_only ≡ false → (seat : ℕ)
      → AllByRecursion (IsReadEndOf opened.pages (wholes_of script opened.shape.space history) left.code) (reads seat)
  pub is_run : (end : ℕ) → opened.start ≡ start_after end
      → IsRun script (record { shape = opened.shape; pages = opened.pages; end = end })
      (closed_run opened.start (closed_with left history))
  pub owed : IsOwedRun log_seen log_gives data_seen data_gives opened script actors (closed_with left history)
  pub reaches : ReachesAll actors (closed_with left history)
  pub cause : CodeHasCause log_seen data_seen left.code opened.log left.log opened.store left.store None
