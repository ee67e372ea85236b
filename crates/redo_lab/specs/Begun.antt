-- What comes before the drive of a run, and after it.
use Rattle.std.specs.Prelude.{List, [], length, ℕ, ◌≡◌, ◌≤◌, Option, Result, Ok, Err, IfSome, Vec, vec_capacity}
use lib.ListN.{get_elem?}
use mathlib.Core.Option.{some}
use Rattle.redo_follow.specs.Following.{Following}
use Rattle.redo_follow.specs.{HasTally, Kept}
use Rattle.std.specs.List.{AllZip}
use Rattle.std.specs.declared.alloc.Global.{Global}
use Rattle.model_report.specs.declared.entry.Followed.{Followed}
use Rattle.model_report.specs.declared.fault.Fault.TheVariants.{Memory}
use Rattle.model_script.specs.declared.asked.Command.{Command}
use Rattle.model_script.specs.declared.asked.Drive.{Drive}
use Rattle.model_script.specs.declared.script.ScriptLine.{ScriptLine}
use Rattle.redo_archive.specs.Part.{Part}
use Rattle.redo_disk.specs as device
use Rattle.redo_disk.specs.{Seen}
use Rattle.redo_drive.specs.{AreNewFollowers, IsNewArchive, MayBegin, followers_in}
use Rattle.redo_drive.specs.declared.actor.Actor.{Actor}
use Rattle.redo_drive.specs.declared.drive.Driven.{Driven}
use Rattle.redo_memdisk.specs.{CallsThrough, seen_through}
use Rattle.redo_memdisk.specs.declared.fused.Fused.{Fused}
use Rattle.redo_lab.specs.Archiving.{AreBegun, HaveFinished, device_of, failed_of, IsUnfused}
use Rattle.redo_lab.specs.Call.{LabCall, IsToldOf, AreOf}
use Rattle.redo_lab.specs.Runs.{IsRanBy, StandsReady, course_of, ended_by, played_of}
use Rattle.redo_lab.specs.declared.start.Begun.{Begun}
use Rattle.redo_lab.specs.declared.playing.Course.TheVariants as course
use Rattle.redo_lab.specs.declared.playing.Ran.{Ran}
use Rattle.redo_lab.specs.declared.playing.Stops.{Stops}

-- there are so many, and the receiver of each has got nothing
pub record AreUntold (count : ℕ) (followers : List (Following Kept)) : Type 0 where
  pub count_is : length followers ≡ count
  pub none : (i : ℕ) (follower : Following Kept) → get_elem? followers i ≡ some follower → HasTally follower.receiver []

-- A RUN STANDS READY FOR ITS DRIVE: it may begin, with as many new followers as are asked for and room for what is told of them, and
-- its archive is new, if a device was handed on for one.
pub record HasBegun {L D A : Type 0} (seen : A → Seen) (gives : A → device.Call → A → Type 0) (drive : Drive)
    (script : List ScriptLine) (arch : Option A) (begun : Begun L D A) : Type 0 where
  pub may : MayBegin begun.opened script drive.log_only
  pub new : AreNewFollowers begun.opened.start begun.followers.items
  pub untold : AreUntold drive.followers begun.followers.items
  pub room : (begun.follows.items ≡ []) × (drive.followers ≤ vec_capacity begun.follows)
  pub archive : AreBegun seen gives begun.opened arch begun.archive
  pub new_archive : IfSome begun.archive (IsNewArchive seen begun.opened script)

-- it does, on a store that stands opened; or the run came to this before its drive
abbrev pub AreBegunOr : {L D A : Type 0} → (L → Seen) → (D → Seen) → (A → Seen) → (Fused L → Fused D → LabCall) → Command → Drive → Stops
    → List ScriptLine → (arch : Option A) → Result (Begun L D A) (Ran L D × Option A) → Type 0
AreBegunOr log_seen data_seen seen call command drive stops script arch (Ok begun) =
    (now : Option _) → IsUnfused seen arch now (call begun.opened.log.dev begun.opened.store.dev).archive
    → StandsReady log_seen data_seen (call begun.opened.log.dev begun.opened.store.dev) drive stops script begun.opened
AreBegunOr log_seen data_seen seen call command drive stops script arch (Err left) =
    IsUnfused seen arch left.1 (call left.0.log left.0.store).archive → IsRanBy call command drive stops script left.0

-- its devices are those that were handed in
abbrev pub AreGivenOn : {L D A : Type 0} → L → D → Result (Begun L D A) (Ran L D × Option A) → Type 0
AreGivenOn log data_device (Ok begun) = AreOf log data_device begun.opened.log.dev begun.opened.store.dev
AreGivenOn log data_device (Err left) = AreOf log data_device left.0.log left.0.store

-- A RUN THAT WAS DRIVEN IS CLOSED: what its archive lacked was appended, it came so far, its followers are told of, and the devices are
-- given back, as is the archive's.
pub record IsClosedBy {L D A : Type 0} (log_seen : L → Seen) (gives : L → device.Call → L → Type 0) (seen : A → Seen)
    (arch_gives : A → device.Call → A → Type 0) (start : ℕ) (room : Vec Followed Global)
    (driven : Driven (Fused L) (Fused D)) (actors : List (Actor Kept)) (archive : Option (Part A))
    (ran : Ran L D) (left : Option A) : Type 0 where
  pub after : Driven (Fused L) (Fused D)
  pub archive_now : Option (Part A)
  pub finished : HaveFinished (seen_through log_seen) (CallsThrough log_seen gives) seen arch_gives driven after
      archive archive_now
  pub follows : Vec Followed Global
  pub told : room.items ≡ [] → length (followers_in actors) ≤ vec_capacity room → AllZip IsToldOf (followers_in actors) follows.items
  pub course : ran.course ≡ course_of after.ended (played_of start after.closed follows)
      (ended_by after.closed.log.failed after.closed.store.failed (failed_of archive_now))
  pub log : ran.log ≡ after.closed.log.dev
  pub store : ran.store ≡ after.closed.store.dev
  pub device_is : left ≡ device_of archive_now

-- no memory was there for its drive, and all is given back as it was
pub record IsUnrun {L D A : Type 0} (log : Fused L) (store : Fused D) (archive : Option (Part A)) (ran : Ran L D) (left : Option A) : Type 0 where
  pub course : ran.course ≡ course.Ended Memory
  pub log_is : ran.log ≡ log
  pub store_is : ran.store ≡ store
  pub device_is : left ≡ device_of archive
