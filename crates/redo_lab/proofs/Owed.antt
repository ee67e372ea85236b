-- What a drive owes of its run holds as well once blocks were read back from its log device.
use Rattle.std.proofs.Common.{ℕ, zero, suc, ◌≡◌, ◌≤◌, ◌<◌, ◌+◌, List, Option, Some, None, IfSome, refl, sym, ap, subst, ◌∙◌, inl, inr, ⊎_elim, arith}
use Rattle.model_device.specs.{synced}
use Rattle.model_log.specs.{start_after}
use Rattle.model_parts.specs.{numbers_taken}
use Rattle.model_report.specs.{IsLeft}
use Rattle.model_script.specs.declared.script.ScriptLine.{ScriptLine}
use Rattle.model_theorem.specs.{IsClosed, IsRun, IsStart, LosesOnlyByFailure, opened_as}
use Rattle.redo_disk.proofs.Told.{known-as, still-known, still-same}
use Rattle.redo_disk.specs.{Call, failures, Seen, StillTells}
use Rattle.redo_disk.specs.declared.error.DevError.{DevError}
use Rattle.redo_disk.specs.declared.error.DevError.TheVariants.{NoMemory}
use Rattle.redo_drive.proofs.CallsOn.{calls_then}
use Rattle.redo_drive.specs.{HasMemory, HoldsRun, IsOwedSynced, Owes, closed_run, IsReadBack, CallsOn}
use Rattle.redo_drive.specs.Drive.{ReadsToMarks, failed_in}
use Rattle.redo_drive.specs.declared.drive.Driven.{Driven}
use Rattle.redo_drive.specs.declared.drive.RunEnd.TheVariants as ended
use Rattle.redo_logdev.specs.Part as log
use Rattle.redo_memdisk.specs.{CallsThrough, seen_through}
use Rattle.redo_memdisk.specs.declared.fused.Fused.{Fused}
use Rattle.redo_store.specs.declared.opened.Opened.{Opened}
use Rattle.redo_lab.proofs.Behind.{calls-same, same-fused}
use Rattle.redo_lab.specs.Archiving.{read_back}
use Rattle.redo_lab.specs.Call.{IsSameFused}

-- A run, and the same once blocks were read back: it ended so, and came so far; and the devices are the same, later.
pub record IsReadAfter {L D : Type 0} (log_seen : L → Seen) (data_seen : D → Seen) (start : ℕ) (first driven : Driven (Fused L) (Fused D)) : Type 0 where
  pub ends : first.ended ≡ driven.ended
  pub run : closed_run start driven.closed ≡ closed_run start first.closed
  pub log_device : IsSameFused first.closed.log.dev driven.closed.log.dev
  pub data_device : IsSameFused first.closed.store.dev driven.closed.store.dev
  pub log_tells : StillTells (log_seen first.closed.log.dev.inner).tells (log_seen driven.closed.log.dev.inner).tells
  pub store_tells : StillTells (data_seen first.closed.store.dev.inner).tells (data_seen driven.closed.store.dev.inner).tells

-- where nothing was read
pub read-none : {L D : Type 0} (log_seen : L → Seen) (data_seen : D → Seen) (start : ℕ) (driven : Driven (Fused L) (Fused D))
    → IsReadAfter log_seen data_seen start driven driven
read-none log_seen data_seen start driven = record {
  ends = refl;
  run = refl;
  log_device = same-fused driven.closed.log.dev;
  data_device = same-fused driven.closed.store.dev;
  log_tells = still-same _ _ refl;
  store_tells = still-same _ _ refl;
}

-- a device is the same after calls, or after none
same-called : {D : Type 0} (seen : D → Seen) (gives : D → Call → D → Type 0) (old new : Fused D) (was now : Option DevError)
    → CallsOn (CallsThrough seen gives) old was new now → IsSameFused old new
same-called seen gives old new None now calls = calls-same (calls.live refl)
same-called seen gives old new (Some e) now calls =
    subst (λ (d : Fused _). IsSameFused old d) (sym (calls.over (λ none. cc)).0) (same-fused old)

-- where blocks were
pub read-some : {L D : Type 0} (log_seen : L → Seen) (log_gives : L → Call → L → Type 0) (data_seen : D → Seen) (start : ℕ)
    (first : Driven (Fused L) (Fused D)) (part : log.Part (Fused L))
    → IsReadBack (seen_through log_seen) (CallsThrough log_seen log_gives) first.closed.log part
    → IsReadAfter log_seen data_seen start first (read_back first part)
read-some log_seen log_gives data_seen start first part back = record {
  ends = refl;
  run = refl;
  log_device = same-called log_seen log_gives first.closed.log.dev part.dev first.closed.log.failed part.failed back.calls;
  data_device = same-fused first.closed.store.dev;
  log_tells = back.told;
  store_tells = still-same _ _ refl;
}

module _ {L D : Type 0} (log_seen : L → Seen) (log_gives : L → Call → L → Type 0) (data_seen : D → Seen) (data_gives : D → Call → D → Type 0)
    (opened : Opened L D) (script : List ScriptLine) where
  -- what is owed of a run, whatever its last turn was
  pub record IsOwed (driven : Driven L D) : Type 0 where
    pub is_run : (end : ℕ) → opened.start ≡ start_after end
        → IsRun script (record { shape = opened.shape; pages = opened.pages; end = end }) (closed_run opened.start driven.closed)
    pub loses : (left : List (ℕ × ℕ)) → driven.ended ≡ ended.Done → HasMemory driven.closed → IsLeft script driven.closed.history left
        → LosesOnlyByFailure (failed_in driven.closed) (Some (closed_run opened.start driven.closed)) left
    pub log_calls : CallsOn log_gives opened.log.dev None driven.closed.log.dev driven.closed.log.failed
    pub data_calls : CallsOn data_gives opened.store.dev None driven.closed.store.dev driven.closed.store.failed
    pub holds : HoldsRun log_seen data_seen opened script driven
    pub owed_synced : IsOwedSynced log_seen data_seen opened script driven

  pub as-owed : (driven : Driven L D) → Owes log_seen log_gives data_seen data_gives opened script driven → IsOwed driven
  as-owed driven owes = record {
    is_run = owes.comes_to.is_run;
    loses = owes.comes_to.loses;
    log_calls = owes.comes_to.log_calls;
    data_calls = owes.comes_to.data_calls;
    holds = owes.holds;
    owed_synced = owes.owed_synced;
  }

  module _ (first : Driven L D) (part : log.Part L) (back : IsReadBack log_seen log_gives first.closed.log part) (owed : IsOwed first) where
    abbrev driven : Driven L D
    driven = read_back first part

    -- a log part that had failed was called no more
    same-failed : (e : DevError) → first.closed.log.failed ≡ Some e → part.failed ≡ Some e
    same-failed e is = (back.calls.over (λ none. let both = sym none ∙ is in absurd (cc))).1 ∙ is

    fewer-by : (was : Option DevError) → first.closed.log.failed ≡ was → failures was ≤ failures part.failed
    fewer-by None is = omega arith
    fewer-by (Some e) is = let same = ap failures (same-failed e is) in omega (arith, same)

    fewer : failures first.closed.log.failed ≤ failures part.failed
    fewer = fewer-by first.closed.log.failed refl

    memory-before : failed_in driven.closed ≡ 0 → HasMemory driven.closed → HasMemory first.closed
    memory-before none memory lacks =
        let some = memory (⊎_elim (λ log. inl (same-failed NoMemory log)) (λ others. inr others) lacks) in
        absurd (omega (arith, none, some))

    -- Where a call failed, anything may be lost.
    loses-by : (n : ℕ) → failed_in driven.closed ≡ n → (left : List (ℕ × ℕ)) → driven.ended ≡ ended.Done → HasMemory driven.closed
        → IsLeft script driven.closed.history left → LosesOnlyByFailure n (Some (closed_run opened.start driven.closed)) left
    loses-by zero none left done memory left_is =
        let before : failed_in first.closed ≡ 0 = omega (arith, none, fewer) in
        subst (λ (n : ℕ). LosesOnlyByFailure n (Some (closed_run opened.start first.closed)) left) before
        (owed.loses left done (memory-before none memory) left_is)
    loses-by (suc n) some left done memory left_is = record {
      lost = λ i entry at lost. omega arith;
      left = λ rest. omega arith;
      stopped = λ stopped. omega arith;
    }

    none-before : (was : Option DevError) → first.closed.log.failed ≡ was → part.failed ≡ None → first.closed.log.failed ≡ None
    none-before None is none = is
    none-before (Some e) is none = let both = sym (same-failed e is) ∙ none in absurd (cc)

    -- WHAT WAS OWED BEFORE is owed after.
    pub owed-back : IsOwed driven
    owed-back = record {
      is_run = owed.is_run;
      loses = λ left done memory left_is. loses-by (failed_in driven.closed) refl left done memory left_is;
      log_calls = calls_then log_gives opened.log.dev first.closed.log.dev part.dev None first.closed.log.failed part.failed owed.log_calls back.calls;
      data_calls = owed.data_calls;
      holds = λ reading as_read. known-as (log_seen opened.log.dev).tells _ _ (λ log_disk. known-as (data_seen opened.store.dev).tells _ _
          (λ data_disk so started. still-known (log_seen first.closed.log.dev).tells (log_seen part.dev).tells _ back.told (so started)))
          (owed.holds reading as_read);
      owed_synced = λ log_none data_none reading left done memory as_read left_is.
          let before = none-before first.closed.log.failed refl log_none in
          let same : failed_in first.closed ≡ failed_in driven.closed = omega (arith, ap failures before, ap failures log_none) in
          let memory_before : HasMemory first.closed =
          λ lacks. subst (λ (n : ℕ). 0 < n) (sym same) (memory (⊎_elim (λ log. inl (same-failed NoMemory log)) (λ others. inr others) lacks)) in
          subst (λ (n : ℕ). IfSome (log_seen opened.log.dev).tells (λ log_disk. IfSome (data_seen opened.store.dev).tells (λ data_disk.
          IsStart reading script log_disk data_disk
          → IfSome (log_seen part.dev).tells (λ log_now. IfSome (data_seen first.closed.store.dev).tells (λ data_now.
          IsClosed n (record {
            script = script;
            opened = opened_as reading;
            number = reading.number + numbers_taken reading.format;
            run = closed_run opened.start first.closed;
            left = left;
            log_disk = synced log_now;
            data_disk = synced data_now;
          })))))) same
          (known-as (log_seen opened.log.dev).tells _ _ (λ log_disk. known-as (data_seen opened.store.dev).tells _ _
          (λ data_disk so started. still-known (log_seen first.closed.log.dev).tells (log_seen part.dev).tells _ back.told (so started)))
          (owed.owed_synced before data_none reading left done memory_before as_read left_is));
    }

    -- and reads give the marks that they gave
    pub reads-back : ReadsToMarks log_seen data_seen opened script first.closed → ReadsToMarks log_seen data_seen opened script driven.closed
    reads-back reads = λ log_none data_none reading as_read. known-as (log_seen opened.log.dev).tells _ _ (λ log_disk. known-as
        (data_seen opened.store.dev).tells _ _
        (λ data_disk so started. still-known (log_seen first.closed.log.dev).tells (log_seen part.dev).tells _ back.told (so started)))
        (reads (none-before first.closed.log.failed refl log_none) data_none reading as_read)
