-- What formatting leaves, and what the command `format` comes to.
use Rattle.std.proofs.Common.{ℕ, ◌≡◌, List, Option, Result, Ok, Err, IfOk, sym, subst, arith, ⊎_elim}
use Rattle.std.proofs.lemmas.Bool.{false≢true}
use Rattle.model_base.specs.{IsWithinLimits}
use Rattle.model_base.specs.declared.shape.Shape.{Shape}
use Rattle.model_device.specs.{Disk}
use Rattle.model_parts.specs.{formatted_store, IsFormatted, IsOpenable}
use Rattle.model_report.specs.{format_text}
use Rattle.model_report.specs.declared.fault.Fault.{Fault}
use Rattle.model_report.specs.declared.fault.Fault.TheVariants as fault
use Rattle.model_script.specs.declared.asked.Command.{Command}
use Rattle.model_script.specs.declared.asked.Command.TheVariants.{Format}
use Rattle.model_store.specs.{IsOrderly}
use Rattle.model_store.specs.declared.refusal.Refusal.{Refusal}
use Rattle.model_store.specs.declared.refusal.Refusal.TheVariants as refusal
use Rattle.redo_disk.specs.{Call, EndWith, failures, MakesCalls, Seen}
use Rattle.redo_disk.specs.declared.error.DevError.{DevError}
use Rattle.redo_disk.proofs.Calls.{MayEndWith-ends}
use Rattle.redo_disk.proofs.Made.{weaker_calls}
use Rattle.redo_memdisk.specs.{CallsThrough, seen_through}
use Rattle.redo_memdisk.specs.declared.fused.Fused.{Fused}
use Rattle.redo_open.specs.{FormatCalls, HasFormatCause, WhereBothTell}
use Rattle.redo_recover.specs.declared.fault.RecFault.{RecFault}
use Rattle.redo_recover.specs.declared.fault.RecFault.TheVariants.{SmallLog, NotFormatted, BadFormat, SmallData, NoCheckpoint, BadRecord, PageLost, PageAhead, LogDev, DataDev, NoMemory}
use Rattle.redo_lab.specs.declared.outcome.Outcome.{Outcome}
use Rattle.redo_lab.specs.declared.outcome.Outcome.TheVariants as outcome
use Rattle.redo_lab.proofs.Alone.{IsLeftAlone, tells-alone, unfailed-alone, unwritten-alone}
use Rattle.redo_lab.proofs.Ends.{AreTelling}
use Rattle.redo_lab.proofs.Fuses.{unarmed-calls}
use Rattle.redo_lab.proofs.Told.{both-told}
use Rattle.redo_lab.specs.Call.{asked_shape, BothDevices, Guarded, IsUnfailed, LabCall, guarded}
use Rattle.redo_lab.specs.Cause.{AreLongEnough, IsPastSource, LeavesFailed, EndsWith, IsDoneOrKeptFrom, IsOutcome}
use Rattle.redo_lab.specs.Devices.{IsUnarmed}
use Rattle.redo_lab.specs.Laws.{Laws}
use Rattle.redo_lab.specs.Runs.{fault_of, outcome_of}
use Rattle.redo_lab.specs.Told.{AreBlank, IsTooShort}

pub unarmed-ends : {D : Type 0} {seen : D → Seen} {gives : D → Call → D → Type 0} {device : D} {old new : Fused D} {error : Option DevError}
    → IsUnarmed 0 (guarded seen device old) → MakesCalls (CallsThrough seen gives) old new (EndWith error) → IsUnarmed (failures error) (guarded seen device new)
unarmed-ends {error = error} was made = unarmed-calls was (weaker_calls (MayEndWith-ends error) made)

-- of which so many calls of each device failed
pub record FormatsTo (shape : Shape) (log_size data_size : ℕ) (Same : Type 0) (Since : ℕ → ℕ → Type 0) (Ends : Fault → Type 0) : Type 0 where
  pub short : (cause : Refusal) → IsTooShort shape log_size data_size cause → Same → Ends (fault.Store cause)
  pub log_fails : Since 1 0 → Ends fault.LogDevice
  pub data_fails : Since 0 1 → Ends fault.DataDevice
  pub memory : Since 0 0 → Ends fault.Memory

-- so many calls of each device failed before its fuse was armed
abbrev pub BothUnarmed : Guarded → Guarded → ℕ → ℕ → Type 0
BothUnarmed log store log_failed data_failed = IsUnarmed log_failed log × IsUnarmed data_failed store

same-short : (shape : Shape) (cause : Refusal) (log store : Guarded) → BothUnarmed log store 0 0 → IsTooShort shape log.now.size store.now.size cause
    → IsTooShort shape log.entry.size store.entry.size cause
same-short shape cause log store was short = subst (λ size. IsTooShort shape log.entry.size size cause) was.1.same.size
    (subst (λ size. IsTooShort shape size store.now.size cause) was.0.same.size short)

module _ {L D : Type 0} (log_seen : L → Seen) (log_gives : L → Call → L → Type 0) (data_seen : D → Seen) (data_gives : D → Call → D → Type 0)
    (log : L) (store : D) {log_old log_new : Fused L} {data_old data_new : Fused D} (was : BothUnarmed (guarded log_seen log log_old) (guarded data_seen store data_old) 0 0) where
  pub formats-both : (done : Unit {0}) → FormatCalls (CallsThrough log_seen log_gives) (CallsThrough data_seen data_gives) log_old log_new data_old data_new (Ok done)
      → BothUnarmed (guarded log_seen log log_new) (guarded data_seen store data_new) 0 0
  formats-both done calls = (unarmed-ends was.0 calls.log, unarmed-ends was.1 calls.data_device)

  pub format-fails : {shape : Shape} {Ends : Fault → Type 0}
      → FormatsTo shape (log_seen log).size (data_seen store).size ((log_new ≡ log_old) × (data_new ≡ data_old))
      (BothUnarmed (guarded log_seen log log_new) (guarded data_seen store data_new)) Ends
      → (f : RecFault) → FormatCalls (CallsThrough log_seen log_gives) (CallsThrough data_seen data_gives) log_old log_new data_old data_new (Err f)
      → HasFormatCause shape (seen_through log_seen log_old) (seen_through data_seen data_old) (seen_through log_seen log_new) (seen_through data_seen data_new) f
      → Ends (fault_of f)
  format-fails {shape = shape} to (SmallLog n) calls cause =
      to.short (refusal.SmallLog n) (same-short shape (refusal.SmallLog n) (guarded log_seen log log_old) (guarded data_seen store data_old) was cause) calls
  format-fails {shape = shape} to (SmallData n) calls cause =
      to.short (refusal.SmallData n) (same-short shape (refusal.SmallData n) (guarded log_seen log log_old) (guarded data_seen store data_old) was cause) calls
  format-fails to LogDev calls cause = to.log_fails (unarmed-ends was.0 calls.log, unarmed-ends was.1 calls.data_device)
  format-fails to DataDev calls cause = to.data_fails (unarmed-ends was.0 calls.log, unarmed-ends was.1 calls.data_device)
  format-fails to NoMemory calls cause = to.memory (⊎_elim
      (λ both. (unarmed-ends was.0 both.log, unarmed-ends was.1 both.data_device))
      (λ both. (unarmed-ends was.0 both.log, unarmed-ends was.1 both.data_device))
      calls)
  format-fails to NotFormatted calls cause = absurd cause
  format-fails to (BadFormat n) calls cause = absurd cause
  format-fails to NoCheckpoint calls cause = absurd cause
  format-fails to (BadRecord lsn) calls cause = absurd cause
  format-fails to (PageLost p) calls cause = absurd cause
  format-fails to (PageAhead p lsn) calls cause = absurd cause

-- THE COMMAND.
module _ (call : LabCall) (page_size pages space log_blocks : ℕ) (unread : call.source_now ≡ call.source)
    (kept : LeavesFailed call (Format page_size pages space log_blocks)) where
  abbrev asked : Command
  asked = Format page_size pages space log_blocks

  abbrev shape : Shape
  shape = asked_shape page_size pages space log_blocks

  abbrev Since : ℕ → ℕ → Type 0
  Since log_failed data_failed = IsUnarmed log_failed call.log × IsUnarmed data_failed call.store

  format-end : (o : Outcome) → AreTelling call → IsOutcome call asked o
      → (AreLongEnough shape call.log.entry.size call.store.entry.size → BothDevices IsUnfailed call → IsDoneOrKeptFrom asked o) → EndsWith call asked o
  format-end o tells means complete = record {
    means = means;
    unread = λ plain. unread;
    unwritten = λ leaves. absurd (false≢true leaves);
    left = λ runs. absurd (false≢true runs);
    tells = tells;
    complete = λ possible source unfailed. complete possible unfailed;
  }

  past : IsPastSource call asked
  past = λ reads. absurd (false≢true reads)

  blank-of : (log data_disk : Disk) → IsOpenable (formatted_store shape) log data_disk → AreBlank shape log data_disk
  blank-of log data_disk openable log_bytes data_bytes log_image data_image =
      subst (λ (bytes : List ℕ). IsOrderly bytes data_bytes (formatted_store shape)) (sym (openable.log_rests.one_image log_bytes log_image))
      (subst (λ (bytes : List ℕ). IsOrderly log.reads bytes (formatted_store shape)) (sym (openable.data_rests.one_image data_bytes data_image)) openable.orderly)

  pub format-ends : {E : Type 0} (r : Result (List ℕ) E) → Since 0 0 → IsWithinLimits shape → Laws
      → WhereBothTell call.log.now.tells call.store.now.tells (IsFormatted shape) → IfOk r (λ text. text ≡ format_text) → EndsWith call asked (outcome_of r)
  format-ends (Ok text) since limits laws formatted is = format-end (outcome.Text text) (since.0.same.tells, since.1.same.tells) (
    ((since.0.early, since.0.mid, since.0.late), (since.1.early, since.1.mid, since.1.late)),
    record {
      blank = λ log data_disk log_is data_is. blank-of log data_disk
          (laws.formatted shape log data_disk limits (both-told call.log.now.tells call.store.now.tells (IsFormatted shape) formatted log data_disk log_is data_is));
      text_is = is;
    },
  )
      (λ long unfailed. tt)
  format-ends (Err e) since limits laws formatted is =
      format-end (outcome.Fault fault.Memory) (since.0.same.tells, since.1.same.tells) kept (λ long unfailed. tt)

  not-long : (cause : Refusal) → IsTooShort shape call.log.entry.size call.store.entry.size cause → AreLongEnough shape call.log.entry.size call.store.entry.size → ⊥
  not-long (refusal.SmallLog n) short long = absurd (omega (arith, long.log_long, short.0))
  not-long (refusal.SmallData n) short long = absurd (omega (arith, long.data_long, short.1))
  not-long cause short long = absurd short

  pub format-to : {Same : Type 0} → (Same → BothDevices IsLeftAlone call)
      → FormatsTo shape call.log.entry.size call.store.entry.size Same Since (λ f. EndsWith call asked (outcome.Fault f))
  format-to alone = record {
    short = λ cause short same. format-end (outcome.Fault (fault.Store cause)) (tells-alone call (alone same))
        (past, unfailed-alone call (alone same), (short, unwritten-alone call (alone same))) (λ long unfailed. absurd (not-long cause short long));
    log_fails = λ since. format-end (outcome.Fault fault.LogDevice) (since.0.same.tells, since.1.same.tells)
        (past, (since.0.risen (omega arith), omega (arith, since.0.early)), tt, kept)
        (λ long unfailed. absurd (omega (arith, since.0.early, unfailed.0.0)));
    data_fails = λ since. format-end (outcome.Fault fault.DataDevice) (since.0.same.tells, since.1.same.tells)
        (past, (since.1.risen (omega arith), omega (arith, since.1.early)), tt, kept)
        (λ long unfailed. absurd (omega (arith, since.1.early, unfailed.1.0)));
    memory = λ since. format-end (outcome.Fault fault.Memory) (since.0.same.tells, since.1.same.tells) kept (λ long unfailed. tt);
  }
