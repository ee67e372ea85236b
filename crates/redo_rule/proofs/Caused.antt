-- What the code of a failure says of what the devices of a run have met, the archive's among them.
use Rattle.std.proofs.Common.{List, None, Option, Some, arith, inl, inr, subst, true, ℕ, ⊎_elim, ◌<◌, ◌≡◌, ◌⊎◌}
use native.Mathlib.Decide.{dec_le}
use Rattle.model_core.specs.{HasLost}
use Rattle.model_core.specs.States as model
use Rattle.model_running.proofs.Archiving.{lost_code}
use Rattle.redo_archiver.specs.{append_code}
use Rattle.redo_disk.specs.{Seen}
use Rattle.redo_disk.specs.declared.error.DevError.{DevError}
use Rattle.redo_disk.specs.declared.error.DevError.TheVariants.{Failed, NoMemory}
use Rattle.redo_drive.specs.{HasFailedBy, RunOf, RunsWith}
use Rattle.redo_drive.specs.declared.device.Device.TheVariants.{Data, Log}
use Rattle.redo_drive.specs.declared.parts.Parts.{Parts}
use Rattle.redo_rule.proofs.Failing.{caused}
use Rattle.redo_rule.specs.Causes.{HasMet}
use Rattle.redo_rule.specs.Failing.{CodeHasCause}
use Rattle.redo_rule.specs.declared.law.About.{About}

module _ {L D : Type 0} (log_seen : L → Seen) (data_seen : D → Seen) (about : About L D) (run : RunOf L D)
    (parts : Parts L D) (actors : List model.Actor)
    (runs : RunsWith log_seen data_seen run about.plan.archive parts actors) where
  -- what has failed by a code that an actor tells: a call of a part, or an append of the archiver
  abbrev pub FailedBy : ℕ → Type 0
  FailedBy code = HasFailedBy log_seen Log (log_seen run.first_log.dev).faults parts.log.dev parts.log.failed code
      ⊎ HasFailedBy data_seen Data (data_seen run.first_data.dev).faults parts.store.dev parts.store.failed code
      ⊎ ((about.plan.archive ≡ true) × HasLost actors code)

  -- the code has its cause, with what an append has met
  pub record HasMetCause (code : ℕ) : Type 0 where
    pub lost : Option DevError
    pub has_met : HasMet about actors lost
    pub cause : CodeHasCause log_seen data_seen code run.first_log parts.log run.first_data parts.store lost

  module _ (code : ℕ) where
    by_met : (lost : Option DevError) → HasMet about actors lost
        → (0 < code → HasFailedBy log_seen Log (log_seen run.first_log.dev).faults parts.log.dev parts.log.failed code
        ⊎ HasFailedBy data_seen Data (data_seen run.first_data.dev).faults parts.store.dev parts.store.failed code
        ⊎ (code ≡ append_code lost)) → HasMetCause code
    by_met lost met cause = record {
      lost = lost;
      has_met = met;
      cause = caused log_seen data_seen code run.first_log parts.log run.first_data parts.store lost cause;
    }

    none_met : HasMet about actors None
    none_met fault is = let bad : None ≡ Some fault = is in absurd (cc)

    met_by : (fault : DevError) → code ≡ append_code (Some fault) → (about.plan.archive ≡ true) × HasLost actors code
        → HasMetCause code
    met_by fault is lost = by_met (Some fault)
        (λ other same. (lost.0, subst (HasLost actors) is lost.1)) (λ positive. inr (inr is))

    by_cause : FailedBy code → HasMetCause code
    by_cause h = ⊎_elim (λ of_log. by_met None none_met (λ positive. inl of_log))
        (⊎_elim (λ of_data. by_met None none_met (λ positive. inr (inl of_data)))
        (λ lost. ⊎_elim (λ e. met_by Failed e lost) (λ e. met_by NoMemory e lost)
        (lost_code run.setup actors runs.running.both.in_run code lost.1)))
        h

    pub met_cause : (0 < code → FailedBy code) → HasMetCause code
    met_cause failed = elim (dec_le 1 code) [
      | yes positive ↦ by_cause (failed positive)
      | no none ↦ by_met None none_met (λ positive. absurd (omega arith))
    ]
