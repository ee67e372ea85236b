-- The crash of the theorem, as two devices tell it that were crashed and read.
use Rattle.std.proofs.Common.{ℕ, ◌≡◌, ◌<◌, ◌+◌, Option, Some, None, sym, subst, ⊎_elim}
use Rattle.model_base.proofs.ShapeLimits.{default_within}
use Rattle.model_base.specs.{default_shape}
use Rattle.model_device.specs.{Crashes, Disk}
use Rattle.redo_disk.specs.{WhereTold}
use Rattle.redo_lab.proofs.Rereading.{IsCrashedSince, Was}
use Rattle.redo_lab.specs.Call.{Guarded, LabCall}
use Rattle.redo_lab.specs.Crash.{AreArmedFirst, IsCrashedAs}
use Rattle.redo_lab.specs.Devices.{ArePrepared}
use Rattle.redo_lab.specs.Laws.{Laws}

-- the crash of a device that tells
pub crashes-told : (old new : Option Disk) (before after : Disk) → WhereTold old new Crashes → old ≡ Some before → new ≡ Some after → Crashes before after
crashes-told old None before after told old_is new_is = absurd (cc)
crashes-told old (Some disk) before after told old_is new_is =
    let was_is : old ≡ Some told.0 = told.1 in
    let same_before : told.0 ≡ before = cc in
    let same_after : disk ≡ after = cc in
    subst (λ (d : Disk). Crashes before d) same_after (subst (λ (d : Disk). Crashes d disk) same_before told.2)

-- THE DEVICE was stopped and crashed as it was asked.
pub is-crashed : {limit : Option ℕ} {pick failed : ℕ} (was : Was) (device : Guarded)
    → IsCrashedSince limit pick failed was device → IsCrashedAs limit pick device
is-crashed was device since = record {
  limit_is = since.armed.limit_is;
  passed_at_most = since.armed.within;
  cause = since.armed.cause;
  pick_is = since.pick_is;
  kept = subst (λ (met : Option Disk). WhereTold met device.now.tells Crashes) (sym since.from) since.left;
  unchanged_since = since.armed.late_changes;
}

-- THE ARMING came before opening.
pub armed-first : {log_limit data_limit : Option ℕ} {pick log_failed data_failed : ℕ} (call : LabCall) (log_was data_was : Was)
    → Laws → ArePrepared call → 0 < call.log.fuse.passed + call.log.fuse.mid
    → IsCrashedSince log_limit pick log_failed log_was call.log → IsCrashedSince data_limit pick data_failed data_was call.store
    → AreArmedFirst call
armed-first call log_was data_was laws prepared counted log_since data_since = record {
  opening_counted = counted;
  told = (log_since.armed.told, data_since.armed.told);
  unused = λ log data_disk log_is data_is log_on data_on unused log_armed data_armed log_armed_is data_armed_is. ⊎_elim
      (λ formatted.
      let openable = laws.formatted default_shape log_armed data_armed default_within
      (formatted.formatted log_armed data_armed log_armed_is data_armed_is) in
      record {
        log_rests = openable.log_rests.one_image;
        data_rests = openable.data_rests.one_image;
        orderly = openable.orderly;
      })
      (λ in_use. absurd (in_use.used log data_disk log_is data_is log_on data_on unused))
      prepared.which;
  in_use = λ log data_disk log_is data_is log_on data_on used. ⊎_elim
      (λ formatted. absurd (used (formatted.unused log data_disk log_is data_is log_on data_on)))
      (λ in_use. ((in_use.kept.0 log_on, in_use.kept.1 data_on), in_use.log_calls, in_use.data_calls))
      prepared.which;
}
