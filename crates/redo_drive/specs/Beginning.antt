-- A run as it begins on an opened store.
use Rattle.std.specs.Prelude.{Bool, List, [], ℕ, ◌+◌, ◌≡◌}
use Rattle.model_core.specs.{Actor, Listed, lsn}
use Rattle.model_running.specs.{HasItsPages, IsOfScript}
use Rattle.model_script.specs.declared.script.ScriptLine.{ScriptLine}
use Rattle.redo_drive.specs.DataPartSide as data_part
use Rattle.redo_disk.specs.{Seen}
use Rattle.redo_drive.specs.LogPartSide as log_part
use Rattle.redo_drive.specs.Lists.{lists_of}
use Rattle.redo_drive.specs.Sides.{RunOf}
use Rattle.redo_drive.specs.Setups.{first_reader, seated_actors}
use Rattle.redo_drive.specs.StartWords.{AreStartWords}
use Rattle.redo_drive.specs.declared.parts.Parts.{Parts}
use Rattle.redo_drive.specs.declared.plan.Plan.{Plan}
use Rattle.redo_drive.specs.declared.seating.TheConstants.{FIRST_FOLLOWER}
use Rattle.redo_store.specs.declared.opened.Opened.{Opened}

-- The run is that of this script on this store, a live one or not, by this plan: with its sizes, its pages and both its parts,
-- from its start on.
pub record IsRunWith {L D : Type 0} (opened : Opened L D) (script : List ScriptLine) (live : Bool) (plan : Plan)
    (run : RunOf L D) : Type 0 where
  pub shape : run.shape ≡ opened.shape
  pub first_log : run.first_log ≡ opened.log
  pub first_data : run.first_data ≡ opened.store
  pub start : lsn run.setup.base ≡ opened.start
  pub live_is : run.live ≡ live
  pub log_only_is : run.setup.log_only ≡ plan.log_only
  pub first_is : run.setup.first_reader ≡ first_reader plan.archive
  pub last_reader : run.setup.last_reader ≡ FIRST_FOLLOWER + plan.followers
  pub of_script : IsOfScript run.setup script opened.shape
  pub its_pages : HasItsPages run.setup (record { shape = opened.shape; pages = opened.pages; end = 0 })

-- both devices held just what was opened when the run began
pub record HaveBegun {L D : Type 0} (log_seen : L → Seen) (data_seen : D → Seen) (run : RunOf L D) : Type 0 where
  pub log : log_part.HasBegun log_seen (lsn run.setup.base) run.first_log
  pub data_part : data_part.HasBegun data_seen run.setup.opened run.first_data

-- NOTHING IS DONE YET: the words are those of the run's start, the actors are those with which it begins, both parts are those
-- that were opened, and no page is listed.
pub record StandsOn {L D : Type 0} (opened : Opened L D) (firsts : List Actor) (run : RunOf L D) (parts : Parts L D)
    (actors : List Actor) : Type 0 where
  pub words : AreStartWords parts.words.words run.setup
  pub are_new : actors ≡ firsts
  pub log : parts.log ≡ opened.log
  pub data_part : parts.store ≡ opened.store
  pub none_listed : (i : ℕ) → ◌≡◌ {A = List Listed} (lists_of parts.lists i) []

-- the same of the run of a script, whose actors are new and in their seats
abbrev pub StandsWith : {L D : Type 0} → Opened L D → (script : List ScriptLine) → Plan → RunOf L D → Parts L D
    → List Actor → Type 0
StandsWith opened script plan run parts actors =
    StandsOn opened (seated_actors opened.shape script opened.start plan) run parts actors
