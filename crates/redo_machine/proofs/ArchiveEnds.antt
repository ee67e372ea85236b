-- What a run leaves of its archive, if it has one.
use Rattle.std.proofs.Common.{Bool, List, None, Option, Some, ap, cond, is_some, sym, ℕ, ◌∙◌, ◌≡◌}
use Rattle.model_core.specs.{Given, HasLost}
use Rattle.model_core.specs.States as model
use Rattle.model_script.specs.declared.script.ScriptLine.{ScriptLine}
use Rattle.redo_archive.specs.Part.{Part}
use Rattle.redo_archiver.specs.{append_code}
use Rattle.redo_disk.specs.{Call, Seen}
use Rattle.redo_disk.specs.declared.error.DevError.{DevError}
use Rattle.redo_drive.proofs.ArchiveLeft.{has_archived, lost_with}
use Rattle.redo_drive.specs.{HaveArchived, HasComeTo, RunOf, RunsWith, views_of}
use Rattle.redo_drive.specs.Leaving.{LeavesWith}
use Rattle.redo_drive.specs.declared.actor.Actor.{Actor}
use Rattle.redo_drive.specs.declared.drive.Driven.{Driven}
use Rattle.redo_drive.specs.declared.parts.Parts.{Parts}
use Rattle.redo_drive.specs.declared.plan.Plan.{Plan}
use Rattle.redo_machine.specs.Reading.{lost_by}
use Rattle.redo_store.specs.declared.opened.Opened.{Opened}

-- AN ARCHIVER THAT HAS LOST ITS ARCHIVE did so by the error of the archive.
module _ {L D A : Type 0} {archive : Bool} (log_seen : L → Seen) (data_seen : D → Seen) (seen : A → Seen)
    (gives : A → Call → A → Type 0) (run : RunOf L D) (parts : Parts L D) (actors : List model.Actor)
    (runs : RunsWith log_seen data_seen run archive parts actors) where
  pub loses_by : (before after : Option (Part A)) (lost : Option DevError)
      → HasComeTo log_seen data_seen seen gives run parts actors runs before after → lost ≡ lost_by after
      → cond (is_some before) ((code : ℕ) → HasLost actors code → code ≡ append_code lost) (Unit {0})
  loses_by None after lost come is = tt
  loses_by (Some part) None lost come is = absurd come
  loses_by (Some part) (Some later) lost come is = λ code by.
      lost_with log_seen data_seen seen run parts actors runs later come.beside code by ∙ ap append_code (sym is)

-- WHAT A RUN LEAVES OF ITS ARCHIVE.
module _ {L D A R : Type 0} (log_seen : L → Seen) (log_gives : L → Call → L → Type 0)
    (data_seen : D → Seen) (data_gives : D → Call → D → Type 0) (seen : A → Seen) (gives : A → Call → A → Type 0)
    (stands : R → List Given → Type 0) (opened : Opened L D) (script : List ScriptLine) (plan : Plan)
    (starts actors : List (Actor R)) (driven : Driven L D)
    (by : LeavesWith log_seen log_gives data_seen data_gives stands opened script plan starts actors
    driven.closed) where
  pub have_archived : (before after : Option (Part A))
      → HasComeTo log_seen data_seen seen gives by.run by.last (views_of actors) by.from.runs before after
      → driven.closed.lost ≡ lost_by after
      → HaveArchived log_seen data_seen seen gives opened script driven.closed (views_of actors) before after
  have_archived None None come is = is
  have_archived None (Some later) come is = absurd come
  have_archived (Some part) None come is = absurd come
  have_archived (Some part) (Some later) come is = has_archived log_seen log_gives data_seen data_gives seen stands opened
      script plan starts actors driven by part later come (sym is)
