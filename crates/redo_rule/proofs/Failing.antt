-- How an actor comes to tell a failure, and what its code says.
use Rattle.std.proofs.Common.{None, Option, Some, ap, arith, inl, inr, refl, sym, ℕ, ⊎_elim, ◌<◌, ◌∙◌, ◌≡◌, ◌≤◌, ◌⊎◌}
use native.Mathlib.Decide.{dec_le}
use Rattle.model_core.specs.{archive_device_code, no_memory_code}
use Rattle.redo_archiver.specs.{append_code}
use Rattle.redo_disk.specs.{Seen}
use Rattle.redo_disk.specs.declared.error.DevError.{DevError}
use Rattle.redo_disk.specs.declared.error.DevError.TheVariants.{Failed, NoMemory}
use Rattle.redo_logdev.specs.Part as log
use Rattle.redo_drive.specs.{code_of, device_code, HasFailedBy}
use Rattle.redo_drive.specs.declared.device.Device.{Device}
use Rattle.redo_drive.specs.declared.device.Device.TheVariants.{Data, Log}
use Rattle.redo_rule.specs.Failing.{CodeHasCause}
use Rattle.redo_store.specs.Part as store

-- what an error says of its code
failed_is : (device other : Device) (fault : DevError) → code_of device fault ≡ device_code other → (device ≡ other) × (fault ≡ Failed)
failed_is Log Log Failed e = (refl, refl)
failed_is Log Log NoMemory e = absurd (omega arith)
failed_is Log Data Failed e = absurd (omega arith)
failed_is Log Data NoMemory e = absurd (omega arith)
failed_is Data Log Failed e = absurd (omega arith)
failed_is Data Log NoMemory e = absurd (omega arith)
failed_is Data Data Failed e = (refl, refl)
failed_is Data Data NoMemory e = absurd (omega arith)

memory_is : (device : Device) (fault : DevError) → code_of device fault ≡ no_memory_code → fault ≡ NoMemory
memory_is Log Failed e = absurd (omega arith)
memory_is Data Failed e = absurd (omega arith)
memory_is device NoMemory e = refl

few_codes : (device : Device) (fault : DevError) → code_of device fault ≤ no_memory_code
few_codes Log Failed = omega arith
few_codes Data Failed = omega arith
few_codes device NoMemory = omega arith

-- and what an append that failed says of its own
lost_is : (met : Option DevError) → append_code met ≡ archive_device_code → met ≡ Some Failed
lost_is None e = absurd (omega arith)
lost_is (Some Failed) e = refl
lost_is (Some NoMemory) e = absurd (omega arith)

starved_is : (met : Option DevError) → append_code met ≡ no_memory_code → met ≡ Some NoMemory
starved_is None e = absurd (omega arith)
starved_is (Some Failed) e = absurd (omega arith)
starved_is (Some NoMemory) e = refl

-- it is 0, 4 or 3
lost_codes : (met : Option DevError) → (append_code met ≡ 0) ⊎ (append_code met ≡ archive_device_code) ⊎ (append_code met ≡ no_memory_code)
lost_codes None = inl refl
lost_codes (Some Failed) = inr (inl refl)
lost_codes (Some NoMemory) = inr (inr refl)

not_below : (code : ℕ) (met : Option DevError) → 0 < code → code ≡ append_code met → no_memory_code ≤ code
not_below code met some is = ⊎_elim (λ e. omega arith) (⊎_elim (λ e. omega arith) (λ e. omega arith)) (lost_codes met)

not_above : (code : ℕ) (met : Option DevError) → code ≡ append_code met → code ≤ archive_device_code
not_above code met is = ⊎_elim (λ e. omega arith) (⊎_elim (λ e. omega arith) (λ e. omega arith)) (lost_codes met)

-- a code that a failed call of a part has, or a failed append
pub caused : {L D : Type 0} (log_seen : L → Seen) (data_seen : D → Seen) (code : ℕ) (log_was log_now : log.Part L) (data_was data_now : store.Part D)
    (lost : Option DevError)
    → (0 < code → HasFailedBy log_seen Log (log_seen log_was.dev).faults log_now.dev log_now.failed code ⊎ HasFailedBy data_seen Data (data_seen data_was.dev).faults data_now.dev data_now.failed code
    ⊎ (code ≡ append_code lost))
    → CodeHasCause log_seen data_seen code log_was log_now data_was data_now lost
caused log_seen data_seen code log_was log_now data_was data_now lost cause = record {
  log = λ e. ⊎_elim
      (λ h. h.risen (failed_is Log Log h.fault (sym h.code_is ∙ e)).1)
      (⊎_elim (λ h. let z = (failed_is Data Log h.fault (sym h.code_is ∙ e)).0 in absurd (cc))
      (λ is. let low = not_below code lost (omega arith) is in absurd (omega arith)))
      (cause (omega arith));
  data_part = λ e. ⊎_elim
      (λ h. let z = (failed_is Log Data h.fault (sym h.code_is ∙ e)).0 in absurd (cc))
      (⊎_elim (λ h. h.risen (failed_is Data Data h.fault (sym h.code_is ∙ e)).1)
      (λ is. let low = not_below code lost (omega arith) is in absurd (omega arith)))
      (cause (omega arith));
  archive = λ e. ⊎_elim
      (λ h. let few = few_codes Log h.fault in let is = h.code_is in absurd (omega arith))
      (⊎_elim (λ h. let few = few_codes Data h.fault in let is = h.code_is in absurd (omega arith))
      (λ is. lost_is lost (sym is ∙ e)))
      (cause (omega arith));
  memory = λ e. ⊎_elim
      (λ h. inl (h.failed ∙ ap (λ (z : DevError). Some z) (memory_is Log h.fault (sym h.code_is ∙ e))))
      (⊎_elim (λ h. inr (inl (h.failed ∙ ap (λ (z : DevError). Some z) (memory_is Data h.fault (sym h.code_is ∙ e)))))
      (λ is. inr (inr (starved_is lost (sym is ∙ e)))))
      (cause (omega arith));
  no_other = elim (dec_le 1 code) [
    | yes some ↦ ⊎_elim (λ h. let few = few_codes Log h.fault in let is = h.code_is in omega arith)
        (⊎_elim (λ h. let few = few_codes Data h.fault in let is = h.code_is in omega arith)
        (λ is. not_above code lost is)) (cause some)
    | no none ↦ omega arith
  ];
}
