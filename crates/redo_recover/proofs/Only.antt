-- A device that is only read: by no call, by one, and by some and then others.
use Rattle.std.proofs.Common.{◌≡◌, ◌≤◌, ◌<◌, ℕ, List, [], ◌∷◌, length-append, Option, Some, None, Ok, Err, refl, subst, sym, inl, inr, ⊎_elim, arith}
use Rattle.std.proofs.lemmas.Bool.{cases_lt}
use Rattle.std.specs.Prelude.{IsErrOf}
use Rattle.model_base.specs.{HasRisen}
use Rattle.model_log.specs.declared.layout.TheConstants.{HEADER_BYTES}
use Rattle.redo_disk.specs.{Answer, Call, MakesCall, MayEndWith, ReadStep, Reads, ReadsMayEndWith, error_of, Seen}
use Rattle.redo_disk.specs.declared.error.DevError.{DevError}
use Rattle.redo_disk.specs.declared.error.DevError.TheVariants as device
use Rattle.redo_disk.proofs.Calls.{AreReads-append, MayEndWith-append, MayEndWith-ends, MayEndWith-no_memory}
use Rattle.redo_disk.proofs.Made.{EndWith-one, joined_calls, no_calls, one_call, weaker_calls}
use Rattle.redo_recover.specs.Devices.{data_fault_of, log_fault_of, IsLogRead, IsOnlyRead, ReadsLog, data_error, log_error}
use Rattle.redo_recover.specs.declared.fault.RecFault.{RecFault}
use Rattle.redo_disk.proofs.Told.{still-same}
use Rattle.redo_recover.proofs.Unchanged.{IsUnchanged-then}

-- a count that rises from some time on rises from an earlier one on
risen-then : (old middle new : ℕ) → old ≤ middle → middle ≤ new → HasRisen middle new → HasRisen old new
risen-then old middle new front back (inl rises) = inl (omega (arith, front, rises))
risen-then old middle new front back (inr stands) = ⊎_elim (λ below. inl below) (λ same. inr (omega (arith, same, back, stands))) (cases_lt old new)

one-reads : (at : ℕ) (before after : List ℕ) (answer : Answer) → ReadsMayEndWith (error_of answer) (Reads at before answer after ∷ [])
one-reads at before after answer =
    record { reads = (tt, tt); ends = MayEndWith-ends (error_of answer) (Reads at before answer after ∷ []) (EndWith-one (Reads at before answer after)) }

-- no device has to have answered the error: it is none, or the program's own want of memory
abbrev pub MayBeOwn : Option DevError → Type 0
MayBeOwn None = Unit {0}
MayBeOwn (Some device.NoMemory) = Unit {0}
MayBeOwn (Some device.Failed) = ⊥

none-ends : (error : Option DevError) → MayBeOwn error → MayEndWith error []
none-ends None own = inl refl
none-ends (Some device.NoMemory) own = inr (refl, refl)
none-ends (Some device.Failed) own = absurd own

module _ {D : Type 0} {seen : D → Seen} {gives : D → Call → D → Type 0} where
  pub only-none : (device : D) → IsOnlyRead seen gives device None device
  only-none device = record {
    unchanged = record { tells = still-same (seen device).tells (seen device).tells refl; crashed_from = refl; size = refl; later = omega arith };
    calls = no_calls gives device (ReadsMayEndWith None) (record { reads = tt; ends = inl refl });
    failed = λ is. absurd cc;
  }

  -- calls that went well, and then a fault that is no device's
  pub only-own : (old new : D) (error : Option DevError) → MayBeOwn error → IsOnlyRead seen gives old None new → IsOnlyRead seen gives old error new
  only-own old new None own read = read
  only-own old new (Some device.NoMemory) own read = record {
    unchanged = read.unchanged;
    calls = weaker_calls (λ calls is. record { reads = is.reads; ends = MayEndWith-no_memory calls is.ends }) read.calls;
    failed = λ is. absurd cc;
  }
  only-own old new (Some device.Failed) own read = absurd own

  pub only-then : (old middle new : D) (error : Option DevError) → IsOnlyRead seen gives old None middle → IsOnlyRead seen gives middle error new
      → IsOnlyRead seen gives old error new
  only-then old middle new error front back = record {
    unchanged = IsUnchanged-then (seen old) (seen middle) (seen new) front.unchanged back.unchanged;
    calls = joined_calls (λ xs ys one other. record {
      reads = AreReads-append xs ys one.reads other.reads;
      ends = MayEndWith-append error xs ys one.ends other.ends;
    }) front.calls back.calls;
    failed = λ is. risen-then (seen old).faults (seen middle).faults (seen new).faults front.unchanged.later back.unchanged.later (back.failed is);
  }

  pub only-one : (old new : D) (at count : ℕ) (before after : List ℕ) (answer : Answer) → ReadStep at count (seen old) answer after (seen new)
      → MakesCall gives old (Reads at before answer after) new → IsOnlyRead seen gives old (error_of answer) new
  only-one old new at count before after answer step given = record {
    unchanged = record { tells = step.same; crashed_from = step.same_crash; size = step.size; later = step.cause.later };
    calls = one_call {call = Reads at before answer after} (ReadsMayEndWith (error_of answer))
        (one-reads at before after answer) given;
    failed = failed answer step.cause.failed;
  }
    where
      failed : (answer : Answer) → (IsErrOf answer device.Failed → HasRisen (seen old).faults (seen new).faults) → error_of answer ≡ Some device.Failed
          → HasRisen (seen old).faults (seen new).faults
      failed (Ok done) cause is = absurd cc
      failed (Err device.Failed) cause is = cause refl
      failed (Err device.NoMemory) cause is = absurd cc

  -- the fault of a program whose device answered this
  pub only-log : (old new : D) (error : DevError) (fault : RecFault) → fault ≡ log_fault_of error → IsOnlyRead seen gives old (Some error) new
      → IsOnlyRead seen gives old (log_error fault) new
  only-log old new device.Failed fault is read = subst (λ (f : RecFault). IsOnlyRead seen gives old (log_error f) new) (sym is) read
  only-log old new device.NoMemory fault is read = subst (λ (f : RecFault). IsOnlyRead seen gives old (log_error f) new) (sym is) read

  pub only-data : (old new : D) (error : DevError) (fault : RecFault) → fault ≡ data_fault_of error → IsOnlyRead seen gives old (Some error) new
      → IsOnlyRead seen gives old (data_error fault) new
  only-data old new device.Failed fault is read = subst (λ (f : RecFault). IsOnlyRead seen gives old (data_error f) new) (sym is) read
  only-data old new device.NoMemory fault is read = subst (λ (f : RecFault). IsOnlyRead seen gives old (data_error f) new) (sym is) read

  -- THE LOG DEVICE.

  -- one that has no room for a header isn't called
  pub log-short : (device : D) (error : Option DevError) → MayBeOwn error → (seen device).size < HEADER_BYTES → IsLogRead seen gives device error device
  log-short device error own short =
      let read = only-own device device error own (only-none device) in
      record {
        unchanged = read.unchanged;
        calls = no_calls gives device (ReadsLog (seen device).size error)
            (record { reads = record { reads = tt; ends = none-ends error own }; begun = λ room. absurd (omega (arith, short, room)) });
        failed = read.failed;
      }

  pub log-one : (old new : D) (at count : ℕ) (before after : List ℕ) (answer : Answer) → ReadStep at count (seen old) answer after (seen new)
      → MakesCall gives old (Reads at before answer after) new → IsLogRead seen gives old (error_of answer) new
  log-one old new at count before after answer step given =
      let read = only-one old new at count before after answer step given in
      record {
        unchanged = read.unchanged;
        calls = one_call {call = Reads at before answer after} (ReadsLog (seen old).size (error_of answer))
            (record { reads = one-reads at before after answer; begun = λ room. omega arith }) given;
        failed = read.failed;
      }

  pub log-own : (old new : D) (error : Option DevError) → MayBeOwn error → IsLogRead seen gives old None new → IsLogRead seen gives old error new
  log-own old new None own read = read
  log-own old new (Some device.NoMemory) own read = record {
    unchanged = read.unchanged;
    calls = weaker_calls (λ calls is. record {
      reads = record { reads = is.reads.reads; ends = MayEndWith-no_memory calls is.reads.ends };
      begun = is.begun;
    }) read.calls;
    failed = λ is. absurd cc;
  }
  log-own old new (Some device.Failed) own read = absurd own

  -- the header was read, and then the blocks
  pub log-then : (old middle new : D) (error : Option DevError) → IsLogRead seen gives old None middle → IsOnlyRead seen gives middle error new
      → IsLogRead seen gives old error new
  log-then old middle new error front back = record {
    unchanged = IsUnchanged-then (seen old) (seen middle) (seen new) front.unchanged back.unchanged;
    calls = joined_calls (λ xs ys one other. record {
      reads = record {
        reads = AreReads-append xs ys one.reads.reads other.reads;
        ends = MayEndWith-append error xs ys one.reads.ends other.ends;
      };
      begun = λ room. (let some = one.begun room in omega (arith, length-append xs ys, some));
    }) front.calls back.calls;
    failed = λ is. risen-then (seen old).faults (seen middle).faults (seen new).faults front.unchanged.later back.unchanged.later (back.failed is);
  }

  pub log-fault : (old new : D) (error : DevError) (fault : RecFault) → fault ≡ log_fault_of error → IsLogRead seen gives old (Some error) new
      → IsLogRead seen gives old (log_error fault) new
  log-fault old new device.Failed fault is read = subst (λ (f : RecFault). IsLogRead seen gives old (log_error f) new) (sym is) read
  log-fault old new device.NoMemory fault is read = subst (λ (f : RecFault). IsLogRead seen gives old (log_error f) new) (sym is) read
