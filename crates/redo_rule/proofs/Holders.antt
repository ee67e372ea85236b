-- Whoever holds a slot of a table: its turn word is 1, and nobody else holds it.
use Rattle.std.proofs.Common.{Bool, List, Some, ℕ, ◌≡◌}
use lib.ListN.{get_elem?}
use mathlib.Core.Option.{some}
use Rattle.model_core.specs.States as model
use Rattle.model_core.specs.{hand}
use Rattle.model_running.proofs.SlotHolders as slots
use Rattle.redo_disk.specs.{Seen}
use Rattle.redo_drive.specs.{RunOf, run_data_side, run_log_side, RunsWith, core_of}
use Rattle.redo_drive.specs.declared.parts.Parts.{Parts}
pub use Rattle.model_running.proofs.SlotHolders.{same_number}

module _ {L D : Type 0} {archive : Bool} (log_seen : L → Seen) (data_seen : D → Seen) (run : RunOf L D) (parts : Parts L D) (actors :
    List model.Actor) (runs : RunsWith log_seen data_seen run archive parts actors) where
  abbrev Holds : ℕ → ℕ → Type 0
  Holds = slots.Holds (run_log_side log_seen data_seen run) (run_data_side log_seen data_seen run) run.setup (core_of log_seen data_seen run parts actors) runs.running

  pub holding : (n : ℕ) (a : model.Actor) → get_elem? actors n ≡ some a → (k : ℕ) → hand a ≡ Some k → Holds n k
  holding = slots.holding (run_log_side log_seen data_seen run) (run_data_side log_seen data_seen run) run.setup (core_of log_seen data_seen run parts actors) runs.running

  pub one_holder : (n j : ℕ) (a b : model.Actor) (k : ℕ) → get_elem? actors n ≡ some a → get_elem? actors j ≡ some b →
      hand a ≡ Some k → hand b ≡ Some k → n ≡ j
  one_holder = slots.one_holder (run_log_side log_seen data_seen run) (run_data_side log_seen data_seen run) run.setup (core_of log_seen data_seen run parts actors) runs.running
