-- What the commands come to that read both devices and run nothing.
use Rattle.model_store.specs.{IsReading, Reading}
use Rattle.model_device.specs.{Disk}
use Rattle.redo_lab.proofs.Told.{still-equal}
use Rattle.std.proofs.Common.{ℕ, ◌≡◌, ◌<◌, Bool, true, if◌then◌else◌, List, Some, None, Option, Result, Ok, Err, IfOk, ap, subst, ◌∙◌, arith}
use Rattle.std.proofs.lemmas.Bool.{false≢true}
use Rattle.model_base.specs.{HasRisen}
use Rattle.model_log.specs.{IsStop, layout_of}
use Rattle.model_log.specs.declared.cause.Cause.{Cause}
use Rattle.model_report.specs.{dump_text, recover_text}
use Rattle.model_report.specs.declared.fault.Fault.TheVariants as fault
use Rattle.model_script.specs.declared.asked.Command.{Command}
use Rattle.model_script.specs.declared.asked.Command.TheVariants.{Recover, Dump}
use Rattle.model_store.specs.declared.refusal.Refusal.{Refusal}
use Rattle.redo_disk.specs.{Call, failures, MakesCalls, ReadsMayEndWith, StillTells, Seen}
use Rattle.redo_disk.specs.declared.error.DevError.{DevError}
use Rattle.redo_disk.proofs.Calls.{changing_calls-reads}
use Rattle.redo_disk.proofs.Made.{weaker_calls}
use Rattle.redo_memdisk.proofs.Behind.{counts-calls}
use Rattle.redo_memdisk.specs.{CallsThrough, counted, fresh, fuse_of, inner_of}
use Rattle.redo_memdisk.specs.declared.fuse.Fuse.{Fuse}
use Rattle.redo_memdisk.specs.declared.fused.Fused.{Fused}
use Rattle.redo_recover.specs.Devices.{OnContent}
use Rattle.redo_lab.specs.declared.outcome.Outcome.{Outcome}
use Rattle.redo_lab.specs.declared.outcome.Outcome.TheVariants as outcome
use Rattle.redo_lab.proofs.Fuses.{unarmed-calls, unarmed-fresh}
use Rattle.redo_lab.proofs.Rereading.{ReadsTo}
use Rattle.redo_lab.proofs.Telling.{reads-keep}
use Rattle.redo_lab.specs.Cause.{IsListing, IsReadOff, EndsWith, IsDoneOrKeptFrom, IsOutcome, CanRead, IsDeviceFault, IsPastSource, IsPossible, IsUnbegun, LeavesFailed}
use Rattle.redo_lab.specs.Call.{runs_script, AreUnfailedFor, BothDevices, Guarded, IsUnfailed, IsUnwritten, LabCall, WhereToldAtEntry, guarded}
use Rattle.redo_lab.specs.Devices.{IsUnarmed}
use Rattle.redo_lab.specs.Laws.{Laws}
use Rattle.redo_lab.specs.Told.{AreRefused}

-- a device that was only read, of which so many calls failed
abbrev pub IsOnlyRead : ℕ → Guarded → Type 0
IsOnlyRead failed device = IsUnarmed failed device × IsUnwritten device

pub only-read : {D : Type 0} {seen : D → Seen} {gives : D → Call → D → Type 0} {device : D} {old new : Fused D} {error : Option DevError}
    → inner_of old ≡ device → fuse_of old ≡ fresh → MakesCalls (CallsThrough seen gives) old new (ReadsMayEndWith error)
    → IsOnlyRead (failures error) (guarded seen device new)
only-read {seen = seen} {gives = gives} {device = device} {old = old} {new = new} inner fuse made =
    let counts = counts-calls seen gives old new made.calls made.made in (
      unarmed-calls (unarmed-fresh seen device old inner fuse) (weaker_calls (λ calls reads. reads.ends) made),
      (
        subst (λ d. StillTells (seen d).tells (seen new.inner).tells) inner (reads-keep seen gives old new made.calls made.are.reads made.made).tells,
        counts.changes ∙ ap (λ n. counted n old.fuse.changes) (changing_calls-reads made.calls made.are.reads) ∙ ap (λ (fuse : Fuse). fuse.changes) fuse,
      ),
    )

-- a command that reads both devices, and what it says of them
pub record ReadsOff (call : LabCall) (command : Command) (IsTextOf : Reading → List ℕ → Type 0) : Type 0 where
  pub unread : call.source_now ≡ call.source
  pub past : IsPastSource call command
  pub runs : runs_script command ≡ true → ⊥
  pub answer : (text : List ℕ) → BothDevices IsUnfailed call → IsReadOff call IsTextOf text → IsOutcome call command (outcome.Text text)
  pub fails : (device : Guarded) → HasRisen device.entry.faults device.now.faults → 0 < device.fuse.early → IsDeviceFault command device
  pub unbegun : IsUnbegun call command
  pub leaves : LeavesFailed call command
  pub refused : (refusal : Refusal) → BothDevices IsUnfailed call → WhereToldAtEntry call (AreRefused refusal) → IsOutcome call command (outcome.Fault (fault.Store refusal))
  pub unfailed : AreUnfailedFor command call → BothDevices IsUnfailed call
  pub reads : IsPossible call command → CanRead call

pub recovers-off : (call : LabCall) (workers : ℕ) → call.source_now ≡ call.source → ReadsOff call (Recover workers) (λ reading text. text ≡ recover_text reading)
recovers-off call workers unread = record {
  unread = unread;
  past = λ reads. absurd (false≢true reads);
  runs = λ runs. false≢true runs;
  answer = λ text unfailed answer. (unfailed, answer);
  fails = λ device risen some. (risen, omega (arith, some));
  unbegun = tt;
  leaves = λ runs. absurd (false≢true runs);
  refused = λ refusal unfailed refused. ((λ reads. absurd (false≢true reads)), unfailed, refused);
  unfailed = λ none. none;
  reads = λ possible. possible;
}

pub dumps-off : (call : LabCall) (why : Bool) → call.source_now ≡ call.source → ReadsOff call (Dump why) (IsListing call why)
dumps-off call why unread = record {
  unread = unread;
  past = λ reads. absurd (false≢true reads);
  runs = λ runs. false≢true runs;
  answer = λ text unfailed answer. (unfailed, answer);
  fails = λ device risen some. (risen, omega (arith, some));
  unbegun = tt;
  leaves = λ runs. absurd (false≢true runs);
  refused = λ refusal unfailed refused. ((λ reads. absurd (false≢true reads)), unfailed, refused);
  unfailed = λ none. none;
  reads = λ possible. possible;
}

-- the listing that was made of what was recovered
pub listed : {E : Type 0} (call : LabCall) (why : Bool) (reading : Reading) (stop : ℕ × Cause) (r : Result (List ℕ) E)
    → StillTells call.log.entry.tells call.log.now.tells → OnContent call.log.now.tells (IsStop (layout_of reading.format reading.shape) reading.ckpt reading.views stop)
    → IfOk r (λ text. text ≡ dump_text (if why then Some stop else None) reading) → IfOk r (IsListing call why reading)
listed call why reading stop (Ok text) still stops is = record {
  stop = stop;
  is_stop = λ log log_is log_on. subst (λ told. OnContent told (IsStop (layout_of reading.format reading.shape) reading.ckpt reading.views stop)) (still-equal _ _ still log_on ∙ log_is) stops;
  text_is = is;
}
listed call why reading stop (Err error) still stops is = tt

module _ {call : LabCall} {command : Command} {IsTextOf : Reading → List ℕ → Type 0} (off : ReadsOff call command IsTextOf) (laws : Laws) where
  abbrev Since : ℕ → ℕ → Type 0
  Since log_failed data_failed = IsOnlyRead log_failed call.log × IsOnlyRead data_failed call.store

  unfailed-reads : Since 0 0 → BothDevices IsUnfailed call
  unfailed-reads since = ((since.0.0.early, since.0.0.mid, since.0.0.late), (since.1.0.early, since.1.0.mid, since.1.0.late))

  reads-end : {log_failed data_failed : ℕ} (o : Outcome) → Since log_failed data_failed → IsOutcome call command o
      → (CanRead call → BothDevices IsUnfailed call → IsDoneOrKeptFrom command o) → EndsWith call command o
  reads-end o since means complete = record {
    means = means;
    unread = λ plain. off.unread;
    unwritten = λ leaves. (since.0.1, since.1.1);
    left = λ runs. absurd (off.runs runs);
    tells = (since.0.0.same.tells, since.1.0.same.tells);
    complete = λ possible source unfailed. complete (off.reads possible) (off.unfailed unfailed);
  }

  -- WHAT READING THE STORE COMES TO.
  -- what reads gave is what they gave at entry, where both devices still tell
  at-entry : {log_failed data_failed : ℕ} (P : Disk → Disk → Type 0) → Since log_failed data_failed
      → ((log_disk data_disk : Disk) → call.log.now.tells ≡ Some log_disk → call.store.now.tells ≡ Some data_disk → P log_disk data_disk) → WhereToldAtEntry call P
  at-entry P since holds log data_disk log_is data_is log_on data_on =
      holds log data_disk (still-equal _ _ since.0.1.0 log_on ∙ log_is) (still-equal _ _ since.1.1.0 data_on ∙ data_is)

  pub plain-reads : ReadsTo Since call.log.now.tells call.store.now.tells IsTextOf (EndsWith call command)
  plain-reads = record {
    read = λ reading text since is_read text_is. reads-end (outcome.Text text) since
        (off.answer text (unfailed-reads since) (record { reading = reading; is_read = at-entry (λ log store. IsReading log.reads store.reads reading) since is_read; text_is = text_is })) (λ can unfailed. tt);
    refused = λ cause since refused. reads-end (outcome.Fault (fault.Store cause)) since (off.refused cause (unfailed-reads since) (at-entry (AreRefused cause) since refused))
        (λ can unfailed. absurd (laws.one_answer can.log.reads can.store.reads can.reading cause can.is_read (at-entry (AreRefused cause) since refused can.log can.store can.log_tells can.store_tells can.log_still can.store_still)));
    memory = λ since. reads-end (outcome.Fault fault.Memory) since off.leaves (λ can unfailed. tt);
    log_fails = λ since. reads-end (outcome.Fault fault.LogDevice) since
        (off.past, off.fails call.log (since.0.0.risen (omega arith)) (omega (arith, since.0.0.early)), off.unbegun, off.leaves)
        (λ can unfailed. absurd (omega (arith, since.0.0.early, unfailed.0.0)));
    data_fails = λ since. reads-end (outcome.Fault fault.DataDevice) since
        (off.past, off.fails call.store (since.1.0.risen (omega arith)) (omega (arith, since.1.0.early)), off.unbegun, off.leaves)
        (λ can unfailed. absurd (omega (arith, since.1.0.early, unfailed.1.0)));
  }
