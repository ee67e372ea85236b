-- What a table leaves whose seats are all at rest.
use Rattle.std.specs.Prelude.{List, suc, ℕ, ◌<◌, ◌≡◌}
use lib.ListN.{get_elem?}
use mathlib.Core.Option.{some}
use Rattle.model_core.specs.States as model
use Rattle.model_core.specs.declared.limits.TheConstants.{FLUSH_LISTS}
use Rattle.redo_disk.specs.{Call}
use Rattle.redo_disk.specs.Sight.{Seen}
use Rattle.redo_drive.specs.Calls.{CallsOn}
use Rattle.redo_drive.specs.{RunOf, run_log_side}
use Rattle.redo_drive.specs.Running.{RunsWith}
use Rattle.redo_drive.specs.declared.parts.Parts.{Parts}
use Rattle.redo_flushlist.specs.{Listing}
use Rattle.redo_rule.specs.Handing.{HaveHandedOn, HaveLoaded, HaveRead}
use Rattle.redo_rule.specs.OwnSide.{Beside, desk_with}
use Rattle.redo_rule.specs.Ruled.{IsRunAbout}
use Rattle.redo_rule.specs.declared.law.About.{About}
use Rattle.redo_rule.specs.declared.law.Heard.{Heard}
use Rattle.redo_rule.specs.declared.law.Slot.{Slot}
use Rattle.redo_rule.specs.declared.law.Slot.TheVariants as slot
use Rattle.redo_rule.specs.declared.law.TheConstants.{DATA_SLOT, LOG_SLOT}

-- each flush list lies in its slot
abbrev pub HaveLists : {L D : Type 0} → List (Slot L D) → Type 0
HaveLists slots = (i : ℕ) → i < FLUSH_LISTS → (l : Listing) × (get_elem? slots (suc i) ≡ some (slot.Pages l))

-- The run of the script on the opened store has come to these parts and actors, of which the words and both parts are what the
-- table had: ALL THAT `Machine::finish` IS GIVEN.
pub record RunReaches {L D : Type 0} (log_seen : L → Seen) (log_gives : L → Call → L → Type 0) (data_seen : D → Seen) (data_gives : D → Call → D → Type 0)
    (about : About L D) (heard : ℕ → Heard) (actors : List model.Actor) (words : List ℕ) (slots : List (Slot L D)) : Type 0 where
  pub run : RunOf L D
  pub is_about : IsRunAbout log_seen data_seen about run
  pub parts : Parts L D
  pub runs : RunsWith log_seen data_seen run about.plan.archive parts actors
  pub hears : HaveHandedOn (run_log_side log_seen data_seen run) run.setup.base parts.log heard actors runs.running.log_ghost.log
  pub reads : HaveRead run.setup parts.words.words heard runs.running.log_ghost.log
  pub loaded : HaveLoaded parts.words.words actors
  pub words_are : parts.words.words ≡ words
  pub beside : Beside
  pub log : get_elem? slots LOG_SLOT ≡ some (slot.Log (desk_with parts.log beside))
  pub data_part : get_elem? slots DATA_SLOT ≡ some (slot.Data parts.store)
  pub log_calls : CallsOn log_gives about.opened.value.log.dev about.opened.value.log.failed parts.log.dev parts.log.failed
  pub data_calls : CallsOn data_gives about.opened.value.store.dev about.opened.value.store.failed parts.store.dev parts.store.failed
  pub log_shape : parts.log.shape ≡ about.opened.value.log.shape
