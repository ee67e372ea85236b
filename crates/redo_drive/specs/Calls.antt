-- The device calls of a run, and how a failed one is told.
use Rattle.std.specs.Prelude.{None, Option, Some, ℕ, ◌≡◌}
use Rattle.model_base.specs.{HasRisen}
use Rattle.model_core.specs.declared.ops.Answer.{Answer}
use Rattle.model_core.specs.declared.ops.Answer.TheVariants as answer
use Rattle.redo_disk.specs.{Seen, Call, EndWith, MakesCalls}
use Rattle.redo_disk.specs.declared.error.DevError.{DevError}
use Rattle.redo_disk.specs.declared.error.DevError.TheVariants.{Failed}
use Rattle.redo_drive.specs.declared.device.Device.{Device}
use Rattle.redo_drive.specs.Asking.{code_of, AskOfParts}
use Rattle.redo_drive.specs.declared.parts.Parts.{Parts}
use Rattle.model_core.specs.States as model
use Rattle.model_core.specs.declared.ops.Op.{Op}

-- the answer to a call that ended so, and told this number
abbrev pub call_answer : Device → Option DevError → ℕ → Answer
call_answer device None told = answer.Called told
call_answer device (Some fault) told = answer.Failed (code_of device fault)

-- A call of the device has failed with this code; `faults` is its count at the run's start.
pub record HasFailedBy {D : Type 0} (seen : D → Seen) (device : Device) (faults : ℕ) (now : D) (met : Option DevError) (code : ℕ) : Type 0 where
  pub fault : DevError
  pub failed : met ≡ Some fault
  pub code_is : code ≡ code_of device fault
  pub risen : fault ≡ Failed → HasRisen faults (seen now).faults

-- A device went from the one to the other by calls of which the last one alone may have answered an error, this one; where
-- an error stood before, no call was made.
pub record CallsOn {D : Type 0} (gives : D → Call → D → Type 0) (old : D) (failed : Option DevError) (new : D) (failed_now : Option DevError) : Type 0 where
  pub live : failed ≡ None → MakesCalls gives old new (EndWith failed_now)
  pub over : (failed ≡ None → ⊥) → (new ≡ old) × (failed_now ≡ failed)

-- so did the devices of both parts
pub record CallOnBoth {L D : Type 0} (log_gives : L → Call → L → Type 0) (data_gives : D → Call → D → Type 0) (old new : Parts L D) : Type 0 where
  pub log : CallsOn log_gives old.log.dev old.log.failed new.log.dev new.log.failed
  pub data_part : CallsOn data_gives old.store.dev old.store.failed new.store.dev new.store.failed

-- what an Op asks of both devices, said of a store's parts
abbrev pub AskOfBoth : {L D : Type 0} → (L → Call → L → Type 0) → (D → Call → D → Type 0) → model.Lent → Op → Parts L D → Parts L D → Type 0
AskOfBoth log_gives data_gives l o old new = AskOfParts log_gives data_gives l o old.log new.log old.store new.store
