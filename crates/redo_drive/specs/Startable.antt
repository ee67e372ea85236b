-- A store on which a run may begin.
use Rattle.std.specs.Prelude.{Bool, List, is_some, length, None, Option, Some, if◌then◌else◌, ℕ, ◌+◌, ◌-◌, ◌≡◌, ◌≤◌}
use Rattle.std.specs.List.{AllByRecursion}
use lib.ListN.{get_elem?}
use mathlib.Core.Option.{some}
use Rattle.model_archive.specs.{begun_marks}
use Rattle.model_base.specs.{run_shape}
use Rattle.model_base.specs.declared.shape.Shape.{Shape}
use Rattle.model_core.specs.{new_reader}
use Rattle.model_core.specs.declared.limits.TheConstants.{READERS}
use Rattle.model_log.specs.declared.layout.TheConstants.{BLOCK_HEADER}
use Rattle.model_parts.specs.{numbers_taken, start_of}
use Rattle.model_script.specs.{ArchiveFits, IsScriptLine, round_end, ScriptFits}
use Rattle.model_script.specs.declared.script.ScriptLine.{ScriptLine}
use Rattle.model_store.specs.{Reading}
use Rattle.redo_archive.specs.Part.{Part}
use Rattle.redo_disk.specs.{Seen}
use Rattle.redo_drive.specs.declared.plan.Plan.{Plan}
use Rattle.redo_drive.specs.declared.seating.TheConstants.{FIRST_FOLLOWER}
use Rattle.redo_follow.specs.Following.{Following}
use Rattle.redo_store.specs.{IsRunnable}
use Rattle.redo_store.specs.declared.opened.Opened.{Opened}

-- where the log runs alone, no checkpoint frees it, and the run has room for one round from its checkpoint on
abbrev pub room_from : Bool → Shape → ℕ → Option ℕ
room_from log_only shape start = if log_only then Some (round_end shape (start - BLOCK_HEADER)) else None

-- A run can start on the store, and the script is one that fits it.
pub record MayBegin {L D : Type 0} (opened : Opened L D) (script : List ScriptLine) (log_only : Bool) : Type 0 where
  pub runnable : IsRunnable opened
  pub lines : AllByRecursion IsScriptLine script
  pub fits : ScriptFits opened.shape opened.start (room_from log_only opened.shape opened.start) script

-- These are followers for a run that starts at this lsn: newly made, at most 4, and numbered 1, 2, .. in order.
pub record AreNewFollowers {R : Type 0} (start : ℕ) (followers : List (Following R)) : Type 0 where
  pub few : FIRST_FOLLOWER + length followers ≤ READERS
  pub each : (i : ℕ) (follower : Following R) → get_elem? followers i ≡ some follower
      → follower.state ≡ new_reader (FIRST_FOLLOWER + i) start

-- the plan of a run with this archive or none, and with these followers
abbrev pub plan_with : {A R : Type 0} → (log_only : Bool) → Option A → List R → Plan
plan_with log_only archive followers =
    record { log_only = log_only; archive = is_some archive; followers = length followers }

-- These are the plan's followers, newly made for a run that starts at this lsn.
pub record HasNewFollowers {R : Type 0} (plan : Plan) (start : ℕ) (followers : List (Following R)) : Type 0 where
  pub new : AreNewFollowers start followers
  pub many : plan.followers ≡ length followers

-- This is an archive for the run of the script on the store: newly begun where the run starts, of the store's shape, on a
-- device that has room for the whole run.
pub record IsNewArchive {L D A : Type 0} (seen : A → Seen) (opened : Opened L D) (script : List ScriptLine) (part : Part A) : Type 0 where
  pub live : part.failed ≡ None
  pub shape : part.shape ≡ opened.shape
  pub start : part.start ≡ opened.start
  pub begun : part.marks ≡ begun_marks opened.start
  pub room : ArchiveFits opened.shape opened.start (Some (seen part.dev).size) script

-- The opened store was in order and read as this.
pub record HasReading {L D : Type 0} (reading : Reading) (opened : Opened L D) : Type 0 where
  pub shape : opened.shape ≡ run_shape reading.shape
  pub pages : opened.pages ≡ reading.pages
  pub start : opened.start ≡ start_of reading
  pub number : opened.log.marks.number ≡ reading.number + numbers_taken reading.format
