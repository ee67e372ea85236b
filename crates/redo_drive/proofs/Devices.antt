-- How a call of a device is told.
use Rattle.std.proofs.Common.{Err, None, Option, Result, Some, ap, arith, cond, inl, inr, refl, sym, ⊎_elim, ℕ, ◌<◌, ◌==◌, ◌^◌, ◌∙◌, ◌≡◌, ◌≤◌}
use native.Mathlib.Decide.{dec_le}
use Rattle.model_base.specs.{HasRisen, last_count}
use Rattle.model_core.specs.declared.ops.Answer.TheVariants as answer
use Rattle.redo_disk.specs.{HasCause, Seen}
use Rattle.redo_disk.specs.declared.error.DevError.{DevError}
use Rattle.redo_disk.specs.declared.error.DevError.TheVariants.{Failed, NoMemory}
use Rattle.redo_drive.specs.Asking.{call_code, code_of}
use Rattle.redo_drive.specs.Calls.{HasFailedBy, call_answer}
use Rattle.redo_drive.specs.declared.device.Device.{Device}
use Rattle.redo_drive.specs.declared.device.Device.TheVariants.{Data, Log}

-- the answer by the code
pub answer_by_code : (device : Device) (met : Option DevError) (told : ℕ)
    → call_answer device met told ≡ cond (call_code device met == 0) (answer.Called told) (answer.Failed (call_code device met))
answer_by_code device None told = refl
answer_by_code Log (Some Failed) told = refl
answer_by_code Data (Some Failed) told = refl
answer_by_code device (Some NoMemory) told = refl

-- a code has 32 bits, and isn't 0
pub code_is_small : (device : Device) (fault : DevError) → (0 < code_of device fault) × (code_of device fault < 2 ^ 32)
code_is_small Log Failed = (omega arith, omega arith)
code_is_small Data Failed = (omega arith, omega arith)
code_is_small device NoMemory = (omega arith, omega arith)

-- a count that has risen in a call has risen since an earlier moment
risen_since : (first before now : ℕ) → first ≤ before → before ≤ now → HasRisen before now → HasRisen first now
risen_since first before now early later risen = elim (dec_le last_count first) [
  | yes d ↦ inr d
  | no n ↦ ⊎_elim (λ z. inl (omega arith)) (λ z. inl (omega arith)) risen
]

module _ {D : Type 0} (seen : D → Seen) (device : Device) (faults : ℕ) where
  -- while no call has failed there is no cause
  pub no_cause : (now : D) (met : Option DevError) (code : ℕ) → met ≡ None → HasFailedBy seen device faults now met code → ⊥
  no_cause now met code live cause = let z : None ≡ Some cause.fault = sym live ∙ cause.failed in absurd (cc)

  -- a call that failed is one
  pub failed_by : (old now : D) (met : Option DevError) (code : ℕ) (fault : DevError) → met ≡ Some fault → code ≡ code_of device fault → faults ≤ (seen old).faults
      → HasCause {T = Unit {0}} (seen old).faults (seen now).faults (Err fault) → HasFailedBy seen device faults now met code
  failed_by old now met code fault failed code_is early cause = record {
    fault = fault;
    failed = failed;
    code_is = code_is;
    risen = λ is. risen_since faults (seen old).faults (seen now).faults early cause.later (cause.failed (ap (λ (z : DevError). let r : Result (Unit {0}) DevError = Err z in r) is));
  }
