-- The turns of a run whose users write for themselves, as the invariant sees it.
use Rattle.std.specs.Prelude.{ℕ}
use Rattle.model_ownrun.specs.OwnRuns.{own_store}
use Rattle.model_running.specs.{TurnStore}
use Rattle.redo_disk.specs.{Call, Seen}
use Rattle.redo_drive.specs.Sides.{RunOf, run_data_side, run_log_side}
use Rattle.redo_drive.specs.declared.drive.RunEnd.{RunEnd}
use Rattle.redo_drive.specs.declared.parts.Parts.{Parts}
use Rattle.redo_machine.specs.ByTurns.{EndsAs}
use Rattle.redo_ownmachine.specs.OwnStore.{AskInRun, own_core_of}
use Rattle.redo_ownmachine.specs.OwnSeats.{OwnSeats}

module _ {L D : Type 0} (log_seen : L → Seen) (log_gives : L → Call → L → Type 0) (data_seen : D → Seen)
    (data_gives : D → Call → D → Type 0) (run : RunOf L D) where
  -- the store of a run
  abbrev pub own_run_store : TurnStore (run_log_side log_seen data_seen run) (run_data_side log_seen data_seen run)
  own_run_store = own_store (run_log_side log_seen data_seen run) (run_data_side log_seen data_seen run)
      (AskInRun log_seen log_gives data_seen data_gives run)

  -- a run by a seed ended so, from these parts and seats on
  abbrev pub OwnRunEndsAs : (seed max : ℕ) → Parts L D → OwnSeats → RunEnd → Parts L D → OwnSeats → Type 0
  OwnRunEndsAs seed max first starts how last after = EndsAs own_run_store seed max
      (own_core_of log_seen data_seen run first starts) how (own_core_of log_seen data_seen run last after)
