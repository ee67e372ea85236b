-- A command that called no device: its script wasn't read, or it has none to run.
use Rattle.redo_disk.proofs.Told.{still-same}
use Rattle.std.proofs.Common.{ℕ, [], ◌⊎◌, ◌+◌, ◌≡◌, ◌≢◌, ◌<◌, true, false, List, length, Option, Some, None, Result, Ok, Err, IfOk, refl, sym, ap, ◌∙◌, inl, arith}
use Rattle.std.proofs.lemmas.Bool.{false≢true}
use Rattle.model_base.specs.{HasRisen}
use Rattle.model_base.specs.declared.limits.TheConstants.{MAX_SCRIPT}
use Rattle.model_report.specs.declared.fault.Fault.{Fault}
use Rattle.model_report.specs.declared.fault.Fault.TheVariants as fault
use Rattle.model_script.specs.{generated_text, script_of}
use Rattle.model_script.specs.declared.asked.Command.{Command}
use Rattle.model_script.specs.declared.asked.Command.TheVariants.{Crash, Gen, Run}
use Rattle.model_script.specs.declared.asked.Drive.{Drive}
use Rattle.model_script.specs.declared.misfit.Misfit.{Misfit}
use Rattle.redo_disk.specs.{Seen}
use Rattle.redo_memdisk.specs.{fresh, fuse_of, inner_of}
use Rattle.redo_memdisk.specs.declared.fuse.Fuse.{Fuse}
use Rattle.redo_memdisk.specs.declared.fused.Fused.{Fused}
use Rattle.redo_lab.specs.declared.crash_command.Crashing.{Crashing}
use Rattle.redo_lab.specs.declared.outcome.Outcome.TheVariants as outcome
use Rattle.redo_lab.proofs.Ends.{AreTelling, at-some, leaves-unprepared}
use Rattle.redo_lab.specs.Call.{command_of, IsBadLine, IsLongScript, leaves_devices, reads_script, BothDevices, Guarded, IsUnfailed, IsUnwritten, LabCall, guarded}
use Rattle.redo_lab.specs.Allowed.{IsScriptFault}
use Rattle.redo_lab.specs.Cause.{CanRun, IsCauseOf, IsPossible, IsUnprepared, LeavesFailed, MayKeepFrom, EndsWith, IsCallOf, IsDoneOrKeptFrom, IsFaultPrinted, IsOutcome}
use Rattle.redo_lab.specs.Laws.{Laws}
use Rattle.redo_lab.specs.Runs.{command_with, outcome_of}
use Rattle.redo_lab.specs.Told.{LeavesStore}
use Rattle.redo_io.specs.{SinkSeen, TakesAtMost}
use Rattle.redo_io.specs.declared.read.TheConstants.{PIECE}

-- the device is seen as it was, after a fuse that saw no call
pub record IsLeftAlone (device : Guarded) : Type 0 where
  pub seen : device.now ≡ device.entry
  pub fuse : device.fuse ≡ fresh

pub alone-behind : {D : Type 0} (seen : D → Seen) (device : D) (old new : Fused D) → inner_of old ≡ device → fuse_of old ≡ fresh → new ≡ old
    → IsLeftAlone (guarded seen device new)
alone-behind seen device old new inner fuse same = record {
  seen = ap (λ (fused : Fused _). seen fused.inner) same ∙ ap seen inner;
  fuse = ap (λ (fused : Fused _). fused.fuse) same ∙ fuse;
}

still-tells : (device : Guarded) → IsLeftAlone device → device.now.tells ≢ None → device.entry.tells ≢ None
still-tells device alone tells none = tells (ap (λ (seen : Seen). seen.tells) alone.seen ∙ none)

unfailed-fresh : (device : Guarded) → IsLeftAlone device → IsUnfailed device
unfailed-fresh device alone =
    (ap (λ (fuse : Fuse). fuse.early) alone.fuse, ap (λ (fuse : Fuse). fuse.mid) alone.fuse, ap (λ (fuse : Fuse). fuse.late) alone.fuse)

unwritten-fresh : (device : Guarded) → IsLeftAlone device → IsUnwritten device
unwritten-fresh device alone = (still-same _ _ (ap (λ (seen : Seen). seen.tells) alone.seen), ap (λ (fuse : Fuse). fuse.changes) alone.fuse)

module _ (call : LabCall) (alone : BothDevices IsLeftAlone call) where
  pub tells-alone : AreTelling call
  tells-alone = (still-tells call.log alone.0, still-tells call.store alone.1)

  pub unfailed-alone : BothDevices IsUnfailed call
  unfailed-alone = (unfailed-fresh call.log alone.0, unfailed-fresh call.store alone.1)

  pub unwritten-alone : BothDevices IsUnwritten call
  unwritten-alone = (unwritten-fresh call.log alone.0, unwritten-fresh call.store alone.1)

  pub unprepared-alone : IsUnprepared call
  unprepared-alone = (
    (ap (λ (fuse : Fuse). fuse.stage) alone.0.fuse, ap (λ (fuse : Fuse). fuse.stage) alone.1.fuse),
    inl (λ log data_disk log_is data_is log_on data_on. (ap (λ (seen : Seen). seen.tells) alone.0.seen, ap (λ (seen : Seen). seen.tells) alone.1.seen)),
  )

  pub leaves-alone : Laws → LeavesStore call
  leaves-alone laws = leaves-unprepared call laws unprepared-alone

no-bad-line : (call : LabCall) (drive : Drive) (n : ℕ) → CanRun call drive → IsBadLine call.source call.source_now n → ⊥
no-bad-line call drive n can bad =
    let left = at-some call.source.left (λ left. (bad.text ≡ left) × (call.source_now.left ≡ Some _)) can.text bad.read.all_read can.source in
    let is_script = can.is_script in
    let is_bad = sym (ap script_of left.0) ∙ bad.is_bad in
    cc

no-long-script : (call : LabCall) (drive : Drive) (misfit : Misfit) → CanRun call drive → IsLongScript call.source misfit → ⊥
no-long-script call drive misfit can long =
    let more = at-some call.source.left (λ left. MAX_SCRIPT < length left) can.text long.long can.source in
    omega (arith, can.short)

-- A COMMAND THAT READS A SCRIPT, which wasn't read
module _ (call : LabCall) (command : Command) (drive : Drive) (alone : BothDevices IsLeftAlone call) (laws : Laws) (reads : reads_script command ≡ true)
    (leaves : LeavesFailed call command) (writes : leaves_devices command ≡ true → ⊥) (can : IsPossible call command → CanRun call drive) where
  unscripted : (f : Fault) → IsCauseOf call command f → (CanRun call drive → (HasRisen call.source.faults call.source_now.faults → ⊥) → MayKeepFrom command f)
      → EndsWith call command (outcome.Fault f)
  unscripted f cause kept = record {
    means = cause;
    unread = λ plain. absurd (false≢true (sym plain ∙ reads));
    unwritten = λ leaves. absurd (writes leaves);
    left = λ runs. leaves-alone call alone laws;
    tells = tells-alone call alone;
    complete = λ possible source unfailed. kept (can possible) source;
  }

  script-fails : (f : Fault) → IsScriptFault call.source call.source_now f → EndsWith call command (outcome.Fault f)
  script-fails fault.Memory cause = unscripted fault.Memory leaves (λ can source. tt)
  script-fails (fault.Script n) cause = unscripted (fault.Script n) (reads, cause, unwritten-alone call alone) (λ can source. absurd (no-bad-line call drive n can cause))
  script-fails fault.Source cause = unscripted fault.Source (reads, cause, unwritten-alone call alone) (λ can source. absurd (source cause))
  script-fails (fault.Fit misfit) cause = unscripted (fault.Fit misfit) (inl (reads, cause, unwritten-alone call alone))
      (λ can source. absurd (no-long-script call drive misfit can cause))
  script-fails f cause = absurd cause

pub scripted-unscripted : (call : LabCall) (drive : Drive) (crash : Option Crashing) (f : Fault) → BothDevices IsLeftAlone call → IsScriptFault call.source call.source_now f → Laws
    → EndsWith call (command_with drive crash) (outcome.Fault f)
scripted-unscripted call drive None f alone cause laws =
    script-fails call (Run drive) drive alone laws refl (λ runs. inl (unprepared-alone call alone)) (λ leaves. false≢true leaves) (λ possible. possible) f cause
scripted-unscripted call drive (Some crash) f alone cause laws =
    script-fails call (Crash drive crash.stops.log crash.stops.store crash.pick crash.workers) drive alone laws refl
    (λ runs. inl (unprepared-alone call alone)) (λ leaves. false≢true leaves) (λ possible. possible) f cause

-- GEN, and where memory ran out over the script that it runs
pub gen-ends : {E : Type 0} (call : LabCall) (seed users groups max : ℕ) (r : Result (List ℕ) E) → BothDevices IsLeftAlone call → call.source_now ≡ call.source
    → IfOk r (λ text. text ≡ generated_text seed users groups) → EndsWith call (Gen seed users groups false max) (outcome_of r)
gen-ends {E = E} call seed users groups max r alone unread is = record {
  means = means-of r is;
  unread = λ plain. unread;
  unwritten = λ leaves. unwritten-alone call alone;
  left = λ runs. absurd (false≢true runs);
  tells = tells-alone call alone;
  complete = λ possible source unfailed. done-of r;
}
  where
    means-of : (r : Result (List ℕ) E) → IfOk r (λ text. text ≡ generated_text seed users groups) → IsOutcome call (Gen seed users groups false max) (outcome_of r)
    means-of (Ok text) is = (unfailed-alone call alone, is)
    means-of (Err error) is = λ runs. absurd (false≢true runs)

    done-of : (r : Result (List ℕ) E) → IsDoneOrKeptFrom (Gen seed users groups false max) (outcome_of r)
    done-of (Ok text) = tt
    done-of (Err error) = tt

pub gen-unscripted : (call : LabCall) (seed users groups max : ℕ) → BothDevices IsLeftAlone call → call.source_now ≡ call.source → Laws
    → EndsWith call (Gen seed users groups true max) (outcome.Fault fault.Memory)
gen-unscripted call seed users groups max alone unread laws = record {
  means = λ runs. inl (unprepared-alone call alone);
  unread = λ plain. unread;
  unwritten = λ leaves. absurd (false≢true leaves);
  left = λ runs. leaves-alone call alone laws;
  tells = tells-alone call alone;
  complete = λ possible source unfailed. tt;
}

-- a source that was left alone
pub all-left : (left : Option (List ℕ)) → TakesAtMost (MAX_SCRIPT + PIECE) left left
all-left None = refl
all-left (Some bytes) = (0, omega arith, omega arith, refl)

-- THE CALL OF OTHER WORDS.
pub nothing-ends : (call : LabCall) (archive_well : Type 0) (sink sink_now : SinkSeen) (status : ℕ) (f : Fault)
    → ((command_of call.words ≡ None) × (f ≡ fault.Words)) ⊎ (f ≡ fault.Memory)
    → call.source_now ≡ call.source → BothDevices IsLeftAlone call → call.archive.now ≡ call.archive.entry → Laws → IsFaultPrinted [] f status sink sink_now
    → TakesAtMost (MAX_SCRIPT + PIECE) call.source.left call.source_now.left → IsCallOf call archive_well sink sink_now
    status
nothing-ends call archive_well sink sink_now status f why unread alone untouched laws printed little = record {
  way = inl (record {
    fault = f;
    fault_is = why;
    printed = printed;
    unread = unread;
    unwritten = unwritten-alone call alone;
    untouched = untouched;
    left = λ command asked runs. leaves-alone call alone laws;
  });
  reads_little = little;
}
