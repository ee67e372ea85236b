-- A table as it is closed, and what every drive owes of what it leaves.
use Rattle.std.specs.Prelude.{Bool, List, None, Option, cond, slice_index, suc, true, ℕ, ◌≡◌}
use lib.ListN.{get_elem?}
use mathlib.Core.Option.{some}
use Rattle.atomic_table.specs.Table.{Final, Seen as SeenBy, State}
use Rattle.atomic_table.specs.declared.shared.Seat.{Seat}
use Rattle.model_core.specs.{archives, ReaderState, failed_at}
use Rattle.model_core.specs.States as model
use Rattle.model_running.specs.{HaveEnded, marks_in}
use Rattle.model_script.specs.declared.script.ScriptLine.{ScriptLine}
use Rattle.redo_archiver.specs.{append_code}
use Rattle.redo_disk.specs.{Call, Seen}
use Rattle.redo_disk.specs.declared.error.DevError.{DevError}
use Rattle.redo_drive.specs.{CallsOn, RunOf, run_log_side, RunsWith}
use Rattle.redo_drive.specs.Drive.{ComesToRun, HoldsRun, IsOwedSynced}
use Rattle.redo_drive.specs.declared.drive.Driven.{Driven}
use Rattle.redo_drive.specs.declared.parts.Parts.{Parts}
use Rattle.redo_drive.specs.declared.drive.RunEnd.TheVariants as ended
use Rattle.redo_drive.specs.declared.closed.Closed.{Closed}
use Rattle.redo_store.specs.declared.opened.Opened.{Opened}
use Rattle.redo_rule.specs.Ending.{HaveLists, RunReaches}
use Rattle.redo_rule.specs.Handing.{HaveHandedOn, HaveLoaded, HaveRead}
use Rattle.redo_rule.specs.OwnSide.{work_of}
use Rattle.redo_rule.specs.Ruled.{IsRunAbout, Ruled}
use Rattle.redo_rule.specs.declared.closing.Left.{Left}
use Rattle.redo_rule.specs.declared.law.About.{About}
use Rattle.redo_rule.specs.declared.law.Heard.{Heard}
use Rattle.redo_rule.specs.declared.law.Slot.{Slot}
use Rattle.redo_rule.specs.declared.law.View.{View}

-- what an append to the archive has met: the archiver has lost its archive by that, or hasn't; without an archive nothing
abbrev pub TellsLoss : (archive : Bool) → List model.Actor → Option DevError → Type 0
TellsLoss archive actors lost = cond archive
    ((seat : ℕ) (r : ReaderState) → get_elem? actors seat ≡ some (model.Reader r) → archives r ≡ true → r.lost ≡ append_code lost)
    (lost ≡ None)

module _ {L D : Type 0} where
  -- where all users have ended it is a drive that came to its end
  abbrev pub done_with : Closed L D → Driven L D
  done_with closed = record { ended = ended.Done; closed = closed }

module _ {L D : Type 0} (log_seen : L → Seen) (log_gives : L → Call → L → Type 0) (data_seen : D → Seen) (data_gives : D → Call → D → Type 0) where
  -- The run of the script on the opened store came to these actors, who have handed on this, and this is what its parts tell.
  pub record LeavesParts (about : About L D) (heard : ℕ → Heard) (actors : List model.Actor) (left : Left L D) : Type 0 where
    pub run : RunOf L D
    pub is_about : IsRunAbout log_seen data_seen about run
    pub last : Parts L D
    pub runs : RunsWith log_seen data_seen run about.plan.archive last actors
    pub hears : HaveHandedOn (run_log_side log_seen data_seen run) run.setup.base last.log heard actors runs.running.log_ghost.log
    pub reads : HaveRead run.setup last.words.words heard runs.running.log_ghost.log
    pub loaded : HaveLoaded last.words.words actors
    pub log_calls : CallsOn log_gives about.opened.value.log.dev about.opened.value.log.failed last.log.dev last.log.failed
    pub data_calls : CallsOn data_gives about.opened.value.store.dev about.opened.value.store.failed last.store.dev last.store.failed
    pub log_shape : last.log.shape ≡ about.opened.value.log.shape
    pub log : left.log ≡ last.log
    pub data_part : left.store ≡ last.store
    pub marks : left.marks ≡ marks_in last.words.words
    pub code : left.code ≡ slice_index last.words.words failed_at

  -- what a table is as it is closed is what a run of some actors has come to
  abbrev pub Holds : About L D → State (Slot L D) (View L D) → Type 0
  Holds = Ruled log_seen log_gives data_seen data_gives

  abbrev pub EndsRun : About L D → Seat (Slot L D) (View L D) → Type 0
  EndsRun about first = (words : List ℕ) (slots : List (Slot L D)) → Final (SeenBy (Holds about) first.id first.me.0) words slots
      → (heard : ℕ → Heard) × (actors : List model.Actor)
      × RunReaches log_seen log_gives data_seen data_gives about heard actors words slots

  -- and no flush list is out of its slot then
  abbrev pub KeepsLists : About L D → Seat (Slot L D) (View L D) → Type 0
  KeepsLists about first = (words : List ℕ) (slots : List (Slot L D))
      → Final (SeenBy (Holds about) first.id first.me.0) words slots → HaveLists slots

  -- The table was closed with these words and slots; to whatever actors a run has come with these, its parts tell this.
  pub record LeavesTable (about : About L D) (first : Seat (Slot L D) (View L D)) (left : Left L D) : Type 0 where
    pub words : List ℕ
    pub slots : List (Slot L D)
    pub final : Final (SeenBy (Holds about) first.id first.me.0) words slots
    pub leaves : (heard : ℕ → Heard) (actors : List model.Actor)
        → RunReaches log_seen log_gives data_seen data_gives about heard actors words slots
        → LeavesParts about heard actors left
    pub work : (heard : ℕ → Heard) (actors : List model.Actor)
        → (E : RunReaches log_seen log_gives data_seen data_gives about heard actors words slots)
        → left.work ≡ work_of E.beside.own

  -- The same, and these lie in the slots of the flush lists.
  pub record EmptiesTable (about : About L D) (first : Seat (Slot L D) (View L D)) (left : Left L D)
      (lists : List (Slot L D)) : Type 0 where
    pub leaves : LeavesTable about first left
    pub lists_are : (i : ℕ) (x : Slot L D) → get_elem? lists i ≡ some x → get_elem? leaves.slots (suc i) ≡ some x

  -- WHAT EVERY DRIVE OWES: both devices hold the run; and where all users have ended, it is a closed one.
  pub record IsOwedRun (opened : Opened L D) (script : List ScriptLine) (actors : List model.Actor) (closed : Closed L D) : Type 0 where
    pub holds : HoldsRun log_seen data_seen opened script (done_with closed)
    pub comes_to : HaveEnded actors → ComesToRun log_gives data_gives opened script (done_with closed)
    pub owed_synced : HaveEnded actors → IsOwedSynced log_seen data_seen opened script (done_with closed)
