-- Two devices that are read by recovery after a run, with a crash of both between or without one.
use Rattle.std.proofs.Common.{ℕ, ◌≡◌, ◌≢◌, ◌<◌, List, Option, Some, None, Result, Ok, Err, IfOk, ap, arith, inl, inr, length, sym, ◌∙◌, ⊎_elim}
use Rattle.model_device.specs.{Crashes, Disk}
use Rattle.model_report.specs.declared.fault.Fault.TheVariants as fault
use Rattle.model_store.specs.{IsReading, Refuses, Reading}
use Rattle.model_store.specs.declared.refusal.Refusal.{Refusal}
use Rattle.model_store.specs.declared.refusal.Refusal.TheVariants as refusal
use Rattle.redo_disk.specs.{Call, failed_calls, failures, MakesCalls, ReadsMayEndWith, StillTells, WhereTold, Seen}
use Rattle.redo_disk.specs.declared.error.DevError.{DevError}
use Rattle.redo_disk.proofs.Made.{weaker_calls}
use Rattle.redo_memdisk.proofs.Behind.{counts-calls, keeps-behind}
use Rattle.redo_memdisk.specs.{armed_from, before_arming, CallsThrough, counted, crashed_with, CrashesThrough, fuse_of, inner_of, while_stopping}
use Rattle.redo_memdisk.specs.declared.fuse.Fuse.{Fuse}
use Rattle.redo_memdisk.specs.declared.fuse.Stage.TheVariants.{Stopping, Crashed}
use Rattle.redo_memdisk.specs.declared.fused.Fused.{Fused}
use Rattle.redo_recover.specs.{data_error, HasCauseIn, log_error, OnContents, ReadsLog}
use Rattle.redo_recover.specs.declared.fault.RecFault.{RecFault}
use Rattle.redo_recover.specs.declared.fault.RecFault.TheVariants.{SmallLog, NotFormatted, BadFormat, SmallData, NoCheckpoint, BadRecord, PageLost, PageAhead, LogDev, DataDev, NoMemory}
use Rattle.redo_lab.specs.declared.outcome.Outcome.{Outcome}
use Rattle.redo_lab.specs.declared.outcome.Outcome.TheVariants as outcome
use Rattle.redo_lab.proofs.ByDrive.{Drives}
use Rattle.redo_lab.proofs.Fuses.{after-crashed, armed-calls, armed-kept, crashed-now, crashed-reads, early-kept}
use Rattle.redo_lab.proofs.Telling.{reads-keep}
use Rattle.redo_lab.proofs.Told.{on-contents, where-after, where-back}
use Rattle.redo_lab.specs.Call.{Guarded, LabCall, guarded}
use Rattle.redo_lab.specs.Devices.{ArePrepared, IsArmed}
use Rattle.redo_lab.specs.Runs.{fault_of, outcome_of}
use Rattle.redo_lab.specs.Told.{AreRefused}

-- a device of a call as it was before
pub record Was : Type 0 where
  pub now : Seen
  pub fuse : Fuse
  pub armed_from : Option Disk

abbrev pub was_of : {D : Type 0} → (D → Seen) → Fused D → Was
was_of seen fused = record { now = seen (inner_of fused); fuse = fuse_of fused; armed_from = armed_from seen fused }

-- the call as it was then, and what it said of drives
abbrev pub before : LabCall → Drives → Was → Was → LabCall
before call drives log store = record call {
  log = record call.log { now = log.now; fuse = log.fuse; armed_from = log.armed_from };
  store = record call.store { now = store.now; fuse = store.fuse; armed_from = store.armed_from };
  drives = drives;
}

-- the same was told of its arming
pub record IsArmedAs (was : Was) (device : Guarded) : Type 0 where
  pub told : device.armed_from ≡ was.armed_from
  pub early_calls : device.fuse.early_calls ≡ was.fuse.early_calls
  -- one that tells now told then
  pub back : device.now.tells ≢ None → was.now.tells ≢ None

pub prepared-later : (call : LabCall) {drives : Drives} (log store : Was) → IsArmedAs log call.log → IsArmedAs store call.store
    → ArePrepared (before call drives log store) → ArePrepared call
prepared-later call log store log_as store_as prepared = record {
  header = prepared.header;
  which = ⊎_elim
      (λ were. inl (record {
        unused = λ log_disk data_disk log_is data_is log_on data_on. were.unused log_disk data_disk log_is data_is (log_as.back log_on) (store_as.back data_on);
        long = were.long;
        formatted = λ log_disk data_disk log_is data_is. were.formatted log_disk data_disk (sym log_as.told ∙ log_is) (sym store_as.told ∙ data_is);
      }))
      (λ were. inr (record {
        used = λ log_disk data_disk log_is data_is log_on data_on. were.used log_disk data_disk log_is data_is (log_as.back log_on) (store_as.back data_on);
        kept = (λ on. log_as.told ∙ were.kept.0 (log_as.back on), λ on. store_as.told ∙ were.kept.1 (store_as.back on));
        log_calls = omega (arith, log_as.early_calls, were.log_calls);
        data_calls = store_as.early_calls ∙ were.data_calls;
      }))
      prepared.which;
}

pub armed-as : {D : Type 0} {seen : D → Seen} {gives : D → Call → D → Type 0} (device : D) {old new : Fused D} {Are : List Call → Type 0} → old.fuse.stage ≡ Stopping
    → MakesCalls (CallsThrough seen gives) old new Are → IsArmedAs (was_of seen old) (guarded seen device new)
armed-as {seen = seen} {gives = gives} device {old = old} {new = new} stage made = record {
  told = armed-kept seen old new (keeps-behind seen gives old new made.calls made.made).armed;
  early_calls = early-kept stage made;
  back = (keeps-behind seen gives old new made.calls made.made).told;
}

-- THE DEVICE WAS CRASHED with this pick, and so many calls failed since, all of them reads.
pub record IsCrashedSince (limit : Option ℕ) (pick failed : ℕ) (was : Was) (device : Guarded) : Type 0 where
  pub armed : IsArmed limit Crashed failed device
  pub arming : IsArmedAs was device
  pub left : WhereTold was.now.tells device.now.tells Crashes
  pub from : device.now.crashed_from ≡ was.now.tells
  pub passed : device.fuse.passed ≡ was.fuse.passed
  pub mid : device.fuse.mid ≡ was.fuse.mid
  pub pick_is : device.fuse.pick ≡ Some pick

pub crashed-since : {D : Type 0} {seen : D → Seen} {gives : D → Call → D → Type 0} {crash_gives : D → ℕ → D → Type 0} {limit : Option ℕ} {pick : ℕ} {device : D} {old met new : Fused D} {error : Option DevError}
    → IsArmed limit Stopping 0 (guarded seen device old) → CrashesThrough seen crash_gives old pick met → MakesCalls (CallsThrough seen gives) met new (ReadsMayEndWith error)
    → IsCrashedSince limit pick (failures error) (was_of seen old) (guarded seen device new)
crashed-since {seen = seen} {gives = gives} {pick = pick} {old = old} {met = met} {new = new} was crash made =
    let kept = reads-keep seen gives met new made.calls made.are.reads made.made in
    let counts = counts-calls seen gives met new made.calls made.made in
    let stage = ap (λ (fuse : Fuse). fuse.stage) crash.notes in
    let notes = crash.notes ∙ ap (λ stage. crashed_with pick (record old.fuse { stage = stage })) was.stage_is in
    record {
      armed = crashed-reads (crashed-now was crash) made;
      arming = record {
        told = armed-kept seen met new (keeps-behind seen gives met new made.calls made.made).armed ∙ armed-kept seen old met crash.same_armed;
        early_calls = counts.early_calls ∙ ap (λ stage. counted (before_arming stage (length made.calls)) met.fuse.early_calls) stage ∙ ap (λ (fuse : Fuse). fuse.early_calls) notes;
        back = λ on. where-back _ _ _ crash.passed_step.left ((keeps-behind seen gives met new made.calls made.made).told on);
      };
      left = where-after _ _ _ Crashes crash.passed_step.left kept.tells;
      from = kept.crashed_from ∙ crash.passed_step.from;
      passed = after-crashed seen gives met new made.calls stage made.made ∙ ap (λ (fuse : Fuse). fuse.passed) notes;
      mid = counts.mid ∙ ap (λ stage. counted (while_stopping stage (failed_calls made.calls)) met.fuse.mid) stage ∙ ap (λ (fuse : Fuse). fuse.mid) notes;
      pick_is = counts.pick ∙ ap (λ (fuse : Fuse). fuse.pick) crash.notes;
    }

-- THE DEVICE WAS ONLY READ, and so many calls failed.
pub record IsReadSince (failed : ℕ) (was : Was) (device : Guarded) : Type 0 where
  pub armed : IsArmed None Stopping 0 device
  pub arming : IsArmedAs was device
  pub tells : StillTells was.now.tells device.now.tells
  pub mid : device.fuse.mid ≡ failed
  pub passed : 0 < was.fuse.passed → 0 < device.fuse.passed

pub read-since : {D : Type 0} {seen : D → Seen} {gives : D → Call → D → Type 0} {device : D} {old new : Fused D} {error : Option DevError}
    → IsArmed None Stopping 0 (guarded seen device old) → old.fuse.mid ≡ 0 → MakesCalls (CallsThrough seen gives) old new (ReadsMayEndWith error)
    → IsReadSince (failures error) (was_of seen old) (guarded seen device new)
read-since {seen = seen} {gives = gives} {device = device} {old = old} {new = new} was none made =
    let armed = armed-calls was none (weaker_calls (λ calls are. are.ends) made) in
    record {
      armed = armed.0;
      arming = armed-as device was.stage_is made;
      tells = (reads-keep seen gives old new made.calls made.are.reads made.made).tells;
      mid = armed.1;
      passed = (counts-calls seen gives old new made.calls made.made).passed;
    }

-- recovery's reads of the log
pub log-reads : {D : Type 0} {gives : D → Call → D → Type 0} {old new : D} {size : ℕ} {error : Option DevError}
    → MakesCalls gives old new (ReadsLog size error) → MakesCalls gives old new (ReadsMayEndWith error)
log-reads made = weaker_calls (λ calls log. log.reads) made

-- WHAT READING COMES TO, of devices that tell this, by how many calls of each failed.
pub record ReadsTo (Since : ℕ → ℕ → Type 0) (log data_told : Option Disk) (IsTextOf : Reading → List ℕ → Type 0) (Ends : Outcome → Type 0) : Type 0 where
  pub read : (reading : Reading) (text : List ℕ) → Since 0 0
      → ((log_disk data_disk : Disk) → log ≡ Some log_disk → data_told ≡ Some data_disk → IsReading log_disk.reads data_disk.reads reading)
      → IsTextOf reading text → Ends (outcome.Text text)
  pub refused : (cause : Refusal) → Since 0 0
      → ((log_disk data_disk : Disk) → log ≡ Some log_disk → data_told ≡ Some data_disk → AreRefused cause log_disk data_disk)
      → Ends (outcome.Fault (fault.Store cause))
  pub memory : Since 0 0 → Ends (outcome.Fault fault.Memory)
  pub log_fails : Since 1 0 → Ends (outcome.Fault fault.LogDevice)
  pub data_fails : Since 0 1 → Ends (outcome.Fault fault.DataDevice)

module _ {Since : ℕ → ℕ → Type 0} {log data_told : Option Disk} {IsTextOf : Reading → List ℕ → Type 0} {Ends : Outcome → Type 0}
    (to : ReadsTo Since log data_told IsTextOf Ends) (log_met data_met : Option Disk) (log_same : log ≡ log_met) (data_same : data_told ≡ data_met) where
  -- what was met is told still
  on-told : (P : List ℕ → List ℕ → Type 0) → OnContents log_met data_met P
      → (log_disk data_disk : Disk) → log ≡ Some log_disk → data_told ≡ Some data_disk → P log_disk.reads data_disk.reads
  on-told P holds log_disk data_disk log_is data_is = on-contents log_met data_met P holds log_disk data_disk (sym log_same ∙ log_is) (sym data_same ∙ data_is)

  pub reading-ends : {E : Type 0} (reading : Reading) (r : Result (List ℕ) E) → Since 0 0
      → OnContents log_met data_met (λ log_bytes data_bytes. IsReading log_bytes data_bytes reading) → IfOk r (IsTextOf reading) → Ends (outcome_of r)
  reading-ends reading (Ok text) since is_read is = to.read reading text since (on-told (λ log_bytes data_bytes. IsReading log_bytes data_bytes reading) is_read) is
  reading-ends reading (Err error) since is_read is = to.memory since

  refusal-ends : (cause : Refusal) → Since 0 0 → OnContents log_met data_met (λ log_bytes data_bytes. Refuses log_bytes data_bytes cause)
      → Ends (outcome.Fault (fault.Store cause))
  refusal-ends cause since refused = to.refused cause since (on-told (λ log_bytes data_bytes. Refuses log_bytes data_bytes cause) refused)

  pub failure-ends : (f : RecFault) → Since (failures (log_error f)) (failures (data_error f)) → HasCauseIn log_met data_met f → Ends (outcome.Fault (fault_of f))
  failure-ends (SmallLog n) since cause = refusal-ends (refusal.SmallLog n) since cause
  failure-ends (SmallData n) since cause = refusal-ends (refusal.SmallData n) since cause
  failure-ends NotFormatted since cause = refusal-ends refusal.NotFormatted since cause
  failure-ends (BadFormat n) since cause = refusal-ends (refusal.BadFormat n) since cause
  failure-ends NoCheckpoint since cause = refusal-ends refusal.NoCheckpoint since cause
  failure-ends (BadRecord lsn) since cause = refusal-ends (refusal.BadRecord lsn) since cause
  failure-ends (PageLost p) since cause = refusal-ends (refusal.PageLost p) since cause
  failure-ends (PageAhead p lsn) since cause = refusal-ends (refusal.PageAhead p lsn) since cause
  failure-ends LogDev since cause = to.log_fails since
  failure-ends DataDev since cause = to.data_fails since
  failure-ends NoMemory since cause = to.memory since
