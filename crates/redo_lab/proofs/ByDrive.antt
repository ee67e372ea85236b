-- The drives serve what is asked for.
use Rattle.redo_drive.specs.declared.drive.RunEnd.{RunEnd}
use Rattle.std.proofs.Common.{ℕ, ◌≡◌, Bool, true, false, List, Option, refl, sym, subst, ◌∙◌}
use Rattle.model_script.specs.declared.asked.Drive.{Drive}
use Rattle.model_device.specs.{Disk}
use Rattle.model_core.specs.States as model
use Rattle.model_report.specs.declared.entry.Followed.{Followed}
use Rattle.model_script.specs.declared.script.ScriptLine.{ScriptLine}
use Rattle.model_theorem.specs.{Ran}
use Rattle.model_theorem.specs.Run as values
use Rattle.redo_disk.specs.{Call, StillTells, Seen}
use Rattle.redo_drive.specs.{views_of}
use Rattle.redo_drive.specs.declared.drive.Driven.{Driven}
use Rattle.redo_drive.specs.declared.drive.RunEnd.TheVariants.{Done, Spent}
use Rattle.redo_memdisk.specs.declared.fused.Fused.{Fused}
use Rattle.redo_store.specs.declared.opened.Opened.{Opened}
use Rattle.redo_threads.specs.InThreads.{RunsInThreads}
use Rattle.redo_lab.specs.Cause.{MaySpend}
use Rattle.redo_disk.proofs.Told.{still-then}
use Rattle.redo_lab.proofs.Behind.{same-then}
use Rattle.redo_lab.specs.Call.{IsDriven, IsSameFused, TellsOf}

-- what a call says of drives
abbrev pub Drives : Type 1
Drives = Drive → values.Opened → List ScriptLine → Ran → List Followed → RunEnd → Option Disk → Option Disk → Type 0

-- a run that met what two devices told met what they still tell later
abbrev pub DrivesLater : Drives → Drives → Type 0
DrivesLater drives later =
    (drive : Drive) (opened : values.Opened) (script : List ScriptLine) (run : Ran) (follows : List Followed) (end : RunEnd)
    (log_met store_met log_now store_now : Option Disk) → StillTells log_met log_now → StillTells store_met store_now
    → drives drive opened script run follows end log_met store_met → later drive opened script run follows end log_now store_now

pub driven-later : {L D : Type 0} (log_seen : L → Seen) (log_gives : L → Call → L → Type 0) (data_seen : D → Seen)
    (data_gives : D → Call → D → Type 0) {log_old log_new : Fused L} {data_old data_new : Fused D}
    → IsSameFused log_old log_new → IsSameFused data_old data_new
    → DrivesLater (IsDriven log_seen log_gives data_seen data_gives log_old data_old)
    (IsDriven log_seen log_gives data_seen data_gives log_new data_new)
driven-later log_seen log_gives data_seen data_gives log_same data_same =
    λ drive opened script run follows end log_met store_met log_now store_now log_still data_still so. record {
      store = so.store;
      is_opened = so.is_opened;
      opened_on = (same-then so.opened_on.0 log_same, same-then so.opened_on.1 data_same);
      driven = so.driven;
      driven_on = (same-then so.driven_on.0 log_same, same-then so.driven_on.1 data_same);
      actors = so.actors;
      told = so.told;
      ends = so.ends;
      run_is = so.run_is;
      follows_are = so.follows_are;
      log_is = still-then _ _ _ so.log_is log_still;
      store_is = still-then _ _ _ so.store_is data_still;
    }

module _ {L D : Type 0} (log_seen : L → Seen) (log_gives : L → Call → L → Type 0) (data_seen : D → Seen) (data_gives : D → Call → D → Type 0) where
  -- what the drive tells that is in threads or isn't, and whose users write for themselves or don't
  abbrev TellsIn : (threads own_writes : Bool) → Drive → Opened (Fused L) (Fused D) → List ScriptLine
      → List model.Actor → Driven (Fused L) (Fused D) → Type 0
  TellsIn threads own_writes asked opened script actors driven =
      TellsOf threads own_writes log_seen log_gives data_seen data_gives asked opened script actors driven

  -- in threads
  pub tells-threads : (asked : Drive) (opened : Opened (Fused L) (Fused D))
      (script : List ScriptLine) (actors : List model.Actor) (driven : Driven (Fused L) (Fused D))
      → asked.threads ≡ true → RunsInThreads opened script asked.log_only actors driven
      → TellsIn asked.threads asked.own_writes asked opened script actors driven
  tells-threads asked opened script actors driven is told =
      subst (λ (threads : Bool). TellsIn threads asked.own_writes asked opened script actors driven) (sym is) told

  -- turns are spent by no drive in threads, and with the log alone, a writer and a flusher only where they are few
  may-spend : (threads own_writes : Bool) (asked : Drive) (store : Opened (Fused L) (Fused D))
      (script : List ScriptLine) (actors : List model.Actor) (driven : Driven (Fused L) (Fused D)) (turns user : ℕ)
      → asked.threads ≡ threads → asked.own_writes ≡ own_writes
      → TellsIn threads own_writes asked store script actors driven → driven.ended ≡ Spent turns user
      → MaySpend asked turns
  may-spend false own_writes asked store script actors driven turns user is own told ended =
      record { by_turns = is; few = λ plain. told.few (sym own ∙ plain) turns user ended }
  may-spend true own_writes asked store script actors driven turns user is own told ended =
      let same : Done ≡ Spent turns user = sym told.done ∙ ended in absurd (cc)

  pub spends-turns : (log_now : Fused L) (data_now : Fused D) (asked : Drive) (opened : values.Opened)
      (script : List ScriptLine) (run : Ran) (follows : List Followed) (turns user : ℕ) (log_met store_met : Option Disk)
      → IsDriven log_seen log_gives data_seen data_gives log_now data_now asked opened script run follows (Spent turns user)
      log_met store_met
      → MaySpend asked turns
  spends-turns log_now data_now asked opened script run follows turns user log_met store_met so =
      may-spend asked.threads asked.own_writes asked so.store script (views_of so.actors) so.driven turns user refl refl so.told so.ends
