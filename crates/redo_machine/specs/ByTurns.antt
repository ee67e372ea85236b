-- A whole run by turns: from the opened store to the closed one.
use Rattle.std.specs.Prelude.{Bool, List, [], false, slice_index, true, ℕ, ◌<◌, ◌≡◌}
use Rattle.model_core.specs.{Core, flat, Listed, failed_at, DataSide, LogSide}
use Rattle.model_core.specs.States as model
use Rattle.model_ownrun.specs.OwnRuns.{AskOrGo, own_store}
use Rattle.model_running.specs.{AskAt, IsDone, IsSpent, TurnStore, actor_store, marks_in}
use Rattle.model_script.specs.declared.script.ScriptLine.{ScriptLine}
use Rattle.model_script.specs.declared.words.TheConstants.{MAX_TURNS}
use Rattle.redo_disk.specs.{Call, Seen}
use Rattle.redo_drive.specs.{AskOfParts, turn_data_side, turn_log_side, ListsInOrder}
use Rattle.redo_drive.specs.Setups.{first_words, seated_actors}
use Rattle.redo_drive.specs.declared.drive.Driven.{Driven}
use Rattle.redo_drive.specs.declared.drive.RunEnd.{RunEnd}
use Rattle.redo_drive.specs.declared.drive.RunEnd.TheVariants as ran
use Rattle.redo_drive.specs.declared.plan.Plan.{Plan}
use Rattle.redo_machine.specs.declared.drive.Turns.{Turns}
use Rattle.redo_store.specs.declared.opened.Opened.{Opened}

-- the turns of a seed, at most so many, led from the first state to the last, where the run ended so
abbrev pub EndsAs : {D : LogSide} {E : DataSide} (store : TurnStore D E) (seed max : ℕ) → store.State → RunEnd
    → store.State → Type 0
EndsAs store seed max first ran.Done last = IsDone store seed max first last
EndsAs store seed max first (ran.Spent turns user) last = (turns ≡ max) × IsSpent store seed max user first last

-- NOTHING IS DONE YET: the words are those with which a run begins, laid out for the opened pages and their size, the
-- actors of the script are new and in their seats, both parts are those that were opened, and no page is listed.
pub record NothingIsDone {L D : Type 0} (log_seen : L → Seen) (data_seen : D → Seen) (opened : Opened L D)
    (script : List ScriptLine) (plan : Plan) (store : Core (turn_log_side log_seen) (turn_data_side data_seen)) : Type 0 where
  pub layout : store.layout ≡ record { pages = opened.shape.pages; page_size = opened.shape.page_size }
  pub words : store.words ≡ flat (first_words opened.shape.page_size opened.start opened.pages)
  pub actors : store.actors ≡ seated_actors opened.shape script opened.start plan
  pub log : store.log_part ≡ opened.log
  pub data_part : store.data_part ≡ opened.store
  pub lists : (i : ℕ) → ◌≡◌ {A = List Listed} (store.lists i) []

module _ {L D : Type 0} (log_seen : L → Seen) (log_gives : L → Call → L → Type 0) (data_seen : D → Seen)
    (data_gives : D → Call → D → Type 0) where
  -- The store of a run by turns, whose users write for themselves or don't. In each turn both devices were asked for
  -- what the Op of the one at the seat asks of them, all of it or up to an error, and for nothing else.
  abbrev pub turn_store : (own_writes : Bool) → TurnStore (turn_log_side log_seen) (turn_data_side data_seen)
  turn_store false = actor_store (turn_log_side log_seen) (turn_data_side data_seen)
      (AskAt (turn_log_side log_seen) (turn_data_side data_seen) (AskOfParts log_gives data_gives))
  turn_store true = own_store (turn_log_side log_seen) (turn_data_side data_seen)
      (AskOrGo (turn_log_side log_seen) (turn_data_side data_seen) (AskOfParts log_gives data_gives))

  module _ (own_writes : Bool) where
    abbrev store : TurnStore (turn_log_side log_seen) (turn_data_side data_seen)
    store = turn_store own_writes

    -- THE TURNS. The run of the script on the opened store, by this plan, began with nothing done. The turns of the seed
    -- led from there to its end, at which the actors are these, and both parts those of the closed run.
    pub record RunsByTurns (opened : Opened L D) (script : List ScriptLine) (turns : Turns) (plan : Plan)
        (actors : List model.Actor) (driven : Driven L D) : Type 0 where
      pub first : store.State
      pub begins : NothingIsDone log_seen data_seen opened script plan (store.core first)
      pub is_new : store.IsNew first
      pub last : store.State
      pub actors_are : ◌≡◌ {A = List model.Actor} actors (store.core last).actors
      pub ends : EndsAs store turns.seed turns.max first driven.ended last
      pub log : driven.closed.log ≡ (store.core last).log_part
      pub data_part : driven.closed.store ≡ (store.core last).data_part
      -- the marks and the code are those of the words at the end, and the history lists the groups of the actors
      pub marks : driven.closed.marks ≡ marks_in (store.core last).words
      pub code : driven.closed.code ≡ slice_index (store.core last).words failed_at
      pub history : ListsInOrder driven.closed.marks actors driven.closed.history
      -- where the log ran alone, without archiver and followers, and no user wrote for itself, turns that were spent
      -- are fewer than the greatest number that may be asked for
      pub few : own_writes ≡ false → (spent user : ℕ) → driven.ended ≡ ran.Spent spent user → plan.log_only ≡ true
          → plan.archive ≡ false → plan.followers ≡ 0 → spent < MAX_TURNS
