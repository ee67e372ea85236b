-- What the promise of stops and of arming refuses, and what it admits.
use Rattle.std.proofs.Common.{ℕ, ◌≡◌, ◌≢◌, ◌<◌, ◌+◌, List, Option, Some, None, refl, sym, ap, subst, inl, inr, arith, ⊎_elim}
use Rattle.std.proofs.lemmas.Bool.{cases_lt, false≢true}
use Rattle.model_base.specs.{default_shape, HasRisen}
use Rattle.model_device.specs.{IsImage, settled, Disk}
use Rattle.model_device.specs.declared.write.Write.{Write}
use Rattle.model_parts.specs.{formatted_store}
use Rattle.model_store.specs.{IsReading, IsUnused, Reading}
use Rattle.model_theorem.specs.{AreFormatted, LosesOnlyByFailure}
use Rattle.redo_lab.specs.Call.{Guarded, mids}
use Rattle.redo_lab.specs.Crash.{AreArmedFirst, AreCrashedAs, IsCrashedAs}
use Rattle.redo_lab.specs.Examples.{ArmsLate, HasNotFailed, IsAdmitted, call_with, crashed_device, failed_call, quiet_call, quiet_device, stopped_call}

-- a device that wasn't to be stopped and hasn't failed has failed no call
no-failure : (pick : ℕ) (device : Guarded) → IsCrashedAs None pick device → HasNotFailed device → 0 < device.fuse.mid → ⊥
no-failure pick device is well failed =
    ⊎_elim (λ (risen : HasRisen device.entry.faults device.now.faults).
    absurd (⊎_elim (λ more. omega (arith, well.can_count, well.well)) (λ last. omega (arith, well.can_count)) risen))
    (λ passed. false≢true passed) (is.cause failed)

pub refuses-opening : (log store : Guarded) (pick : ℕ) (left : List (ℕ × ℕ)) → AreCrashedAs None None pick (call_with log store)
    → LosesOnlyByFailure (mids (call_with log store)) None left → HasNotFailed log → HasNotFailed store → ⊥
refuses-opening log store pick left are loses log_well store_well =
    let failed : 0 < log.fuse.mid + store.fuse.mid = loses.stopped refl in
    ⊎_elim (no-failure pick log are.0 log_well)
    (λ none. no-failure pick store are.1 store_well (omega arith))
    (cases_lt 0 log.fuse.mid)

-- `one` is the law that a store is read in one way
pub refuses-late : ((log store : List ℕ) (first second : Reading) → IsReading log store first → IsReading log store second → first ≡ second)
    → (log store : Guarded) → AreArmedFirst (call_with log store) → ArmsLate log store → ⊥
refuses-late one log store first late =
    let formatted : AreFormatted late.log_armed late.store_armed =
    first.unused late.log_entry late.store_entry late.log_tells late.store_tells late.log_still late.store_still late.unused
    late.log_armed late.store_armed late.log_armed_is late.store_armed_is in
    let same : late.reading ≡ formatted_store default_shape =
    one late.log_armed.reads late.store_armed.reads late.reading (formatted_store default_shape) late.is_read formatted.orderly.reads in
    let number : late.reading.number ≡ 0 = ap (λ (reading : Reading). reading.number) same in
    let opened_once = late.was_opened in
    absurd (omega arith)

-- what stood there at the last good sync is an image
base-image : (disk : Disk) → IsImage disk disk.base
base-image disk = record { same_length = refl; each = λ k below. inl refl }

quiet-crashed : (found bytes : List ℕ) → IsCrashedAs None 0 (quiet_device found bytes)
quiet-crashed found bytes = record {
  limit_is = refl;
  passed_at_most = tt;
  cause = λ some. absurd (omega arith);
  pick_is = refl;
  kept = (settled bytes, refl, record { image = bytes; possible = base-image (settled bytes); left = refl });
  unchanged_since = refl;
}

-- a device that was in use stays so
in-use-still : (found : List ℕ) (log : Disk) → (IsUnused found → ⊥) → Some (settled found) ≡ Some log → IsUnused log.reads → ⊥
in-use-still found log in_use is unused =
    let same : settled found ≡ log = cc in
    in_use (subst (λ (d : Disk). IsUnused d.reads) (sym same) unused)

-- devices in use were armed as they were handed in
module _ (found data_bytes : List ℕ) (in_use : IsUnused found → ⊥) where
  armed-in-use : (met : Disk) (bytes : List ℕ) (limit : Option ℕ) (passed failed faults : ℕ) → 0 < passed + failed
      → AreArmedFirst (call_with (crashed_device found met bytes limit passed failed faults) (quiet_device data_bytes data_bytes))
  armed-in-use met bytes limit passed failed faults counted = record {
    opening_counted = counted;
    told = (λ on none. cc, λ on none. cc);
    unused = λ log store log_is store_is log_on store_on unused. absurd (in-use-still found log in_use log_is unused);
    in_use = λ log store log_is store_is log_on store_on used. ((refl, refl), omega arith, refl);
  }

  pub admits-quiet : (log : List ℕ) → IsAdmitted None (quiet_call found log data_bytes)
  admits-quiet log = ((quiet-crashed found log, quiet-crashed data_bytes data_bytes), armed-in-use (settled log) log None 1 0 0 (omega arith))

  pub admits-failed : (log : List ℕ) (writes : List Write) (reads : List ℕ) → IsAdmitted None (failed_call found log writes reads data_bytes)
  admits-failed log writes reads =
      let met : Disk = record { base = log; writes = writes; reads = reads } in (
        (
          record {
            limit_is = refl;
            passed_at_most = tt;
            cause = λ some. inl (inl (omega arith));
            pick_is = refl;
            kept = (met, refl, record { image = log; possible = base-image met; left = refl });
            unchanged_since = refl;
          },
          quiet-crashed data_bytes data_bytes,
        ),
        armed-in-use met log None 3 1 1 (omega arith),
      )

  pub admits-stopped : IsAdmitted (Some 0) (stopped_call found data_bytes)
  admits-stopped = (
    (
      record {
        limit_is = refl;
        passed_at_most = omega arith;
        cause = λ some. inr refl;
        pick_is = refl;
        kept = (settled found, refl, record { image = found; possible = base-image (settled found); left = refl });
        unchanged_since = refl;
      },
      quiet-crashed data_bytes data_bytes,
    ),
    armed-in-use (settled found) found (Some 0) 0 1 0 (omega arith),
  )
