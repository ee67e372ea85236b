-- What the drive in threads tells of a run, in plain words.
use Rattle.std.specs.Prelude.{Bool, List, length, map, suc, ℕ, ◌++◌, ◌<◌, ◌∷◌, ◌≡◌}
use lib.ListN.{get_elem?}
use mathlib.Core.Option.{some}
use Rattle.model_core.specs.States as model
use Rattle.model_core.specs.{FlusherState, UserState, WriterState}
use Rattle.model_report.specs.Legal.{lines_of_user}
use Rattle.model_running.specs.Schedule.{HaveEnded, ArePageActors}
use Rattle.model_script.specs.declared.script.ScriptLine.{ScriptLine}
use Rattle.redo_drive.specs.{ListsInOrder}
use Rattle.redo_drive.specs.declared.drive.Driven.{Driven}
use Rattle.redo_drive.specs.declared.drive.RunEnd.TheVariants as run_end
use Rattle.redo_store.specs.declared.opened.Opened.{Opened}

-- These are the actors of a script, in their order: the users that have lines, by their numbers, each with as many lines as the
-- script has of it; then the writer and the flusher; then, unless the log runs alone, the actors of the pages; and at
-- last the readers of the log.
pub record AreActorsOf (script : List ScriptLine) (log_only : Bool) (actors : List model.Actor) : Type 0 where
  pub users : List UserState
  pub writer : WriterState
  pub flusher : FlusherState
  pub others : List model.Actor
  pub are : ◌≡◌ {A = List model.Actor} actors (map model.User users ++ model.Writer writer ∷ model.Flusher flusher ∷ others)
  pub page_actors : ArePageActors log_only others
  pub ascending : (i : ℕ) (u v : UserState) → get_elem? users i ≡ some u → get_elem? users (suc i) ≡ some v → u.user < v.user
  pub has_lines : (i : ℕ) (u : UserState) → get_elem? users i ≡ some u → 0 < length u.lines
  pub lines : (i : ℕ) (u : UserState) → get_elem? users i ≡ some u → length u.lines ≡ length (lines_of_user u.user script)
  pub all : (user : ℕ) → 0 < length (lines_of_user user script) → (i : ℕ) × (u : UserState) × (get_elem? users i ≡ some u) × (u.user ≡ user)

-- each user has answered all of its lines
abbrev pub HaveAnswered : List model.Actor → Type 0
HaveAnswered actors = (seat : ℕ) (u : UserState) → get_elem? actors seat ≡ some (model.User u) → u.k ≡ length u.lines

-- THE RUN IN THREADS came to these actors of the script. Each user has ended, and has answered all of its lines where the code
-- tells of no failure. The history lists the groups of these actors.
pub record RunsInThreads {L D : Type 0} (opened : Opened L D) (script : List ScriptLine) (log_only : Bool)
    (actors : List model.Actor) (driven : Driven L D) : Type 0 where
  pub done : driven.ended ≡ run_end.Done
  pub of_script : AreActorsOf script log_only actors
  pub ended : HaveEnded actors
  pub answered : driven.closed.code ≡ 0 → HaveAnswered actors
  pub listed : ListsInOrder driven.closed.marks actors driven.closed.history
