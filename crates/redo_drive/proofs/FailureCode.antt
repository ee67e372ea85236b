-- The code in FAILED has 32 bits.
use Rattle.std.proofs.Common.{Bool, List, ap, arith, slice_index, ℕ, ⊎_elim, ◌<◌, ◌^◌, ◌≡◌}
use native.Mathlib.Decide.{dec_le}
use Rattle.model_core.specs.{Actor, failed_at}
use Rattle.model_running.proofs.Archiving.{lost_small}
use Rattle.redo_disk.specs.{Seen}
use Rattle.redo_drive.proofs.Devices.{code_is_small}
use Rattle.redo_drive.specs.Running.{RunOf, RunsWith}
use Rattle.redo_drive.specs.declared.device.Device.TheVariants.{Data, Log}
use Rattle.redo_drive.specs.declared.parts.Parts.{Parts}

pub small_code : {L D : Type 0} {archive : Bool} (log_seen : L → Seen) (data_seen : D → Seen) (run : RunOf L D) (parts : Parts L D) (actors : List Actor) → RunsWith log_seen data_seen run archive parts actors → slice_index parts.words.words failed_at < 2 ^ 32
small_code log_seen data_seen run parts actors runs =
    let m = runs.running.shared in
    let is : slice_index parts.words.words failed_at ≡ m.failed = ap (λ (ws : List ℕ). slice_index ws failed_at) runs.running.flat_is in
    elim (dec_le 1 m.failed) [
      | yes met ↦ ⊎_elim
          (λ cause. let z = (code_is_small Log cause.fault).1 in let e = cause.code_is in omega arith)
          (⊎_elim
          (λ cause. let z = (code_is_small Data cause.fault).1 in let e = cause.code_is in omega arith)
          (λ cause. let z = lost_small run.setup actors runs.running.both.in_run m.failed cause in omega arith))
          (runs.running.both.cause met)
      | no none ↦ omega arith
    ]
