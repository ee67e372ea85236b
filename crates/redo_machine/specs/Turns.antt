-- The turns of a run, as the invariant sees it.
use Rattle.std.specs.Prelude.{List, ℕ, ◌/◌, ◌<◌, ◌≡◌}
use Rattle.model_core.specs.States as model
use Rattle.model_running.specs.{AskAt, TurnStore, actor_store}
use Rattle.model_script.specs.{first_state, state_after}
use Rattle.redo_disk.specs.{Call, Seen}
use Rattle.redo_drive.specs.{AskOfParts}
use Rattle.redo_drive.specs.Sides.{core_of, RunOf, run_data_side, run_log_side}
use Rattle.redo_drive.specs.declared.drive.RunEnd.{RunEnd}
use Rattle.redo_drive.specs.declared.parts.Parts.{Parts}
use Rattle.redo_machine.specs.ByTurns.{EndsAs}

-- as long as the turns are drawn, the state is the seed's, so many draws on
abbrev pub IsDrawn : ℕ → ℕ → ℕ → ℕ → Type 0
IsDrawn seed turn max state = turn < max / 2 → state ≡ state_after turn (first_state seed)

module _ {L D : Type 0} (log_seen : L → Seen) (log_gives : L → Call → L → Type 0) (data_seen : D → Seen)
    (data_gives : D → Call → D → Type 0) (run : RunOf L D) where
  -- the store of a run
  abbrev pub run_store : TurnStore (run_log_side log_seen data_seen run) (run_data_side log_seen data_seen run)
  run_store = actor_store (run_log_side log_seen data_seen run) (run_data_side log_seen data_seen run)
      (AskAt (run_log_side log_seen data_seen run) (run_data_side log_seen data_seen run)
      (AskOfParts log_gives data_gives))

  -- a run by a seed ended so, from these parts and actors on
  abbrev pub RunEndsAs : (seed max : ℕ) → Parts L D → List model.Actor → RunEnd → Parts L D → List model.Actor → Type 0
  RunEndsAs seed max first starts how last after = EndsAs run_store seed max
      (core_of log_seen data_seen run first starts) how (core_of log_seen data_seen run last after)
