-- A store that was opened, or wasn't, on two devices whose fuses are armed.
use Rattle.std.proofs.Common.{ℕ, ◌≡◌, ◌≢◌, ◌≤◌, ◌<◌, ◌+◌, List, [], length, Option, Some, None, Ok, Err, IfSome, refl, sym, subst, ◌∙◌, arith}
use Rattle.model_base.specs.{default_shape}
use Rattle.model_device.specs.{Disk}
use Rattle.model_log.specs.declared.layout.TheConstants.{HEADER_BYTES}
use Rattle.model_parts.specs.{formatted_store, IsOpenable, KeepsOpened}
use Rattle.model_report.specs.declared.fault.Fault.TheVariants as fault
use Rattle.model_script.specs.{ArchiveFits, first_misfit, ScriptFits}
use Rattle.model_script.specs.declared.asked.Command.{Command}
use Rattle.model_script.specs.declared.asked.Drive.{Drive}
use Rattle.model_script.specs.declared.misfit.Misfit.{Misfit}
use Rattle.model_script.specs.declared.script.ScriptLine.{ScriptLine}
use Rattle.model_store.specs.{IsOrderly, RefusesToOpen, Reading}
use Rattle.model_store.specs.declared.refusal.Refusal.{Refusal}
use Rattle.model_store.specs.declared.refusal.Refusal.TheVariants as refusal
use Rattle.model_theorem.specs.{opened_as}
use Rattle.redo_disk.specs.{Call, failures, MakesCalls, MayEndWith, Seen}
use Rattle.redo_disk.specs.declared.error.DevError.{DevError}
use Rattle.redo_disk.proofs.Made.{weaker_calls}
use Rattle.redo_drive.specs.{room_from}
use Rattle.redo_drive.specs.declared.drive.RunEnd.TheVariants.{Done}
use Rattle.redo_memdisk.proofs.Behind.{counts-calls}
use Rattle.redo_memdisk.specs.{CallsThrough, seen_through, while_stopping}
use Rattle.redo_memdisk.specs.declared.fused.Fused.{Fused}
use Rattle.redo_open.proofs.Entry.{rests-keeps, rests-unmoved}
use Rattle.redo_open.specs.{HasFaultCause, IsNotOpened, IsOpenedReady, IsOpeningOf, OpensLog, OpensSafely, WhereBothTell}
use Rattle.redo_open.specs.Opening.{OpenResult, WhereStillTold, data_device_left, log_device_left}
use Rattle.redo_store.specs.{IsRunnable}
use Rattle.redo_store.specs.declared.opened.Opened as store
use Rattle.redo_recover.specs.{data_error, log_error, OnContents}
use Rattle.redo_recover.specs.declared.fault.RecFault.{RecFault}
use Rattle.redo_recover.specs.declared.fault.RecFault.TheVariants.{SmallLog, NotFormatted, BadFormat, SmallData, NoCheckpoint, BadRecord, PageLost, PageAhead, LogDev, DataDev, NoMemory}
use Rattle.redo_lab.specs.declared.outcome.Outcome.TheVariants as outcome
use Rattle.redo_lab.specs.declared.playing.Stops.{Stops}
use Rattle.redo_lab.proofs.Fuses.{armed-calls}
use Rattle.redo_lab.proofs.Opening.{HasEnd, has-end, opened-reads, opened_at, opens-as, refused-at, refused-kept, stopped-first, unplayed-memory, unplayed-misfit, unplayed-refused}
use Rattle.redo_lab.proofs.Rereading.{armed-as, prepared-later, was_of}
use Rattle.redo_lab.proofs.Told.{both-told, moved, still-equal, still-keeps, still-moves, weaker-both}
use Rattle.redo_lab.specs.Cause.{archive_size, EndsWith}
use Rattle.redo_lab.specs.Call.{LabCall, call_on, Handed}
use Rattle.redo_lab.specs.Devices.{AreArmed, AreAsArmed}
use Rattle.redo_lab.specs.Laws.{Laws}
use Rattle.redo_lab.specs.Runs.{ComesTo, CommandRuns, IsLeftBy, StandsReady, unopened}

-- CALLS OF BOTH DEVICES since their fuses were armed
pub armed-after : {L D : Type 0} {log_seen : L → Seen} {log_gives : L → Call → L → Type 0} {data_seen : D → Seen} {data_gives : D → Call → D → Type 0}
    (handed : Handed) (log : L) (data_device : D) {stops : Stops} {log_old log_new : Fused L} {data_old data_new : Fused D} {log_error data_error : Option DevError}
    → AreArmed (call_on log_seen log_gives data_seen data_gives handed log data_device log_old data_old) stops
    → log_old.fuse.mid ≡ 0 → data_old.fuse.mid ≡ 0
    → MakesCalls (CallsThrough log_seen log_gives) log_old log_new (MayEndWith log_error) → MakesCalls (CallsThrough data_seen data_gives) data_old data_new (MayEndWith data_error)
    → AreArmed (call_on log_seen log_gives data_seen data_gives handed log data_device log_new data_new) stops
armed-after {log_seen = log_seen} {log_gives = log_gives} {data_seen = data_seen} {data_gives = data_gives} handed log data_device {log_old = log_old} {log_new = log_new} {data_old = data_old} {data_new = data_new} was log_none data_none log_made data_made = record {
  prepared = prepared-later (call_on log_seen log_gives data_seen data_gives handed log data_device log_new data_new) (was_of log_seen log_old) (was_of data_seen data_old)
      (armed-as log was.log_device.stage_is log_made) (armed-as data_device was.data_device.stage_is data_made) was.prepared;
  log_device = (armed-calls was.log_device log_none log_made).0;
  data_device = (armed-calls was.data_device data_none data_made).0;
}

-- THE DEVICES AFTER OPENING, of whose calls so many failed, and which told this when their fuses were armed
pub record IsOpening (log_failed data_failed : ℕ) (log_met data_met : Option Disk) (call : LabCall) (stops : Stops) : Type 0 where
  pub armed : AreArmed call stops
  pub counted : 0 < call.log.fuse.passed + call.log.fuse.mid
  pub log_mid : call.log.fuse.mid ≡ log_failed
  pub data_mid : call.store.fuse.mid ≡ data_failed
  pub log_as : call.log.armed_from ≡ log_met
  pub data_as : call.store.armed_from ≡ data_met

pub is-opening : {L D : Type 0} {log_seen : L → Seen} {log_gives : L → Call → L → Type 0} {data_seen : D → Seen} {data_gives : D → Call → D → Type 0}
    (handed : Handed) (log : L) (data_device : D) {stops : Stops} {log_old log_new : Fused L} {data_old data_new : Fused D} {log_error data_error : Option DevError}
    → AreArmed (call_on log_seen log_gives data_seen data_gives handed log data_device log_old data_old) stops
    → AreAsArmed (call_on log_seen log_gives data_seen data_gives handed log data_device log_old data_old)
    → MakesCalls (CallsThrough log_seen log_gives) log_old log_new (OpensLog (log_seen log_old.inner).size log_error)
    → MakesCalls (CallsThrough data_seen data_gives) data_old data_new (MayEndWith data_error)
    → IsOpening (failures log_error) (failures data_error) (log_seen log_old.inner).tells (data_seen data_old.inner).tells
    (call_on log_seen log_gives data_seen data_gives handed log data_device log_new data_new) stops
is-opening {log_seen = log_seen} {log_gives = log_gives} handed log data_device {log_old = log_old} {log_new = log_new} was none log_made data_made =
    let log_ends = weaker_calls (λ calls opens. opens.ends) log_made in
    let counts = counts-calls log_seen log_gives log_old log_new log_made.calls log_made.made in
    let header : HEADER_BYTES ≤ (log_seen log_old.inner).size = omega (arith, was.prepared.header, was.log_device.same.size) in
    let some : 0 < length log_made.calls = log_made.are.begun header in
    record {
      armed = armed-after handed log data_device was none.0.0 none.1.0 log_ends data_made;
      counted = counts.some (subst (λ stage. 0 < while_stopping stage (length log_made.calls)) (sym was.log_device.stage_is) some);
      log_mid = (armed-calls was.log_device none.0.0 log_ends).1;
      data_mid = (armed-calls was.data_device none.1.0 data_made).1;
      log_as = (armed-as log was.log_device.stage_is log_made).told ∙ none.0.1;
      data_as = (armed-as data_device was.data_device.stage_is data_made).told ∙ none.1.1;
    }

-- WHAT OPENING SAYS of each store that it may have found
module _ {L D : Type 0} (log_seen : L → Seen) (data_seen : D → Seen) (log data_told : Option Disk) where
  -- of devices that it was handed like this
  abbrev Safely : OpenResult L D → Reading → Disk → Disk → Type 0
  Safely result reading log_disk data_disk =
      IsOrderly log_disk.reads data_disk.reads reading → OpensSafely log_seen data_seen reading log_disk data_disk result

  pub opens-keeps : (result : OpenResult L D)
      → ((reading : Reading) → WhereStillTold (log_seen (log_device_left result)).tells (data_seen (data_device_left result)).tells
      (WhereBothTell log data_told (Safely result reading)))
      → (reading : Reading) → WhereBothTell log data_told (λ log_disk data_disk. IsOpenable reading log_disk data_disk
      → WhereBothTell (log_seen (log_device_left result)).tells (data_seen (data_device_left result)).tells (KeepsOpened reading))
  opens-keeps result safely reading = still-keeps log data_told (log_seen (log_device_left result)).tells (data_seen (data_device_left result)).tells (IsOpenable reading) (KeepsOpened reading)
      (λ log_on data_on. weaker-both {Q = λ log_disk data_disk. IsOpenable reading log_disk data_disk
      → WhereBothTell (log_seen (log_device_left result)).tells (data_seen (data_device_left result)).tells (KeepsOpened reading)} log data_told
      (λ log_disk data_disk opens openable. rests-keeps log_seen data_seen reading log_disk data_disk result openable (opens openable.orderly))
      (safely reading log_on data_on))

  pub opens-unmoved : (error : RecFault × L × D)
      → ((reading : Reading) → WhereStillTold (log_seen error.1).tells (data_seen error.2).tells
      (WhereBothTell log data_told (Safely (Err error) reading)))
      → (reading : Reading) → WhereBothTell log data_told (λ log_disk data_disk. IsOpenable reading log_disk data_disk
      → error.0 ≢ NoMemory → (data_seen error.2).tells ≢ None → IfSome (log_seen error.1).tells (IsNotOpened reading))
  opens-unmoved error safely reading = still-moves log data_told (log_seen error.1).tells (data_seen error.2).tells (IsOpenable reading) (error.0 ≢ NoMemory) (IsNotOpened reading)
      (λ log_on data_on. weaker-both {Q = λ log_disk data_disk. IsOpenable reading log_disk data_disk
      → error.0 ≢ NoMemory → IfSome (log_seen error.1).tells (IsNotOpened reading)} log data_told
      (λ log_disk data_disk opens openable. rests-unmoved log_seen data_seen reading log_disk data_disk error openable (opens openable.orderly))
      (safely reading log_on data_on))

  pub opens-ready : (given : store.Opened L D)
      → ((reading : Reading) → WhereStillTold (log_seen given.log.dev).tells (data_seen given.store.dev).tells
      (WhereBothTell log data_told (Safely (Ok given) reading)))
      → (reading : Reading) → WhereStillTold (log_seen given.log.dev).tells (data_seen given.store.dev).tells
      (WhereBothTell log data_told (λ log_disk data_disk. IsOpenable reading log_disk data_disk → IsOpenedReady log_seen data_seen reading given))
  opens-ready given safely reading log_on data_on = weaker-both {Q = λ log_disk data_disk. IsOpenable reading log_disk data_disk
      → IsOpenedReady log_seen data_seen reading given} log data_told
      (λ log_disk data_disk opens openable. (opens openable.orderly).ready) (safely reading log_on data_on)

-- WHAT A RUN COMES TO whose store wasn't opened
module _ (call : LabCall) (command : Command) (drive : Drive) (stops : Stops) (script : List ScriptLine)
    (running : CommandRuns call.source call.source_now command drive script) (laws : Laws) (log data_device : Seen)
    (keeps : (reading : Reading) → WhereBothTell log.tells data_device.tells (λ log_disk data_disk. IsOpenable reading log_disk data_disk
    → WhereBothTell call.log.now.tells call.store.now.tells (KeepsOpened reading))) where
  -- a device failed
  stopped-by : {log_failed data_failed : ℕ} → IsOpening log_failed data_failed log.tells data_device.tells call stops
      → ((reading : Reading) → WhereBothTell log.tells data_device.tells (λ log_disk data_disk. IsOpenable reading log_disk data_disk
      → call.store.now.tells ≢ None → IfSome call.log.now.tells (IsNotOpened reading))) → IsLeftBy call command drive stops script None [] Done
  stopped-by is unmoved = record {
    armed = is.armed;
    counted = is.counted;
    opened = opened_as (formatted_store default_shape);
    ran = tt;
    opened_first = stopped-first call stops is.armed laws log.tells data_device.tells is.log_as is.data_as unmoved;
    reads = opened-reads call stops is.armed laws log.tells data_device.tells is.log_as is.data_as keeps script;
  }

  -- the store is refused
  refused-by : (f : RecFault) (cause : Refusal) (log_after data_after : Seen) → log_after.tells ≡ call.log.now.tells → data_after.tells ≡ call.store.now.tells
      → IsOpening 0 0 log.tells data_device.tells call stops → HasFaultCause log data_device log_after data_after f
      → ((n : ℕ) → cause ≡ refusal.SmallData n → call.store.entry.size < n)
      → WhereStillTold log_after.tells data_after.tells (OnContents log.tells data_device.tells (λ log_bytes data_bytes. RefusesToOpen log_bytes data_bytes cause)) → EndsWith call command (outcome.Fault (fault.Store cause))
  refused-by f cause log_after data_after log_is data_is is has short refused =
      unplayed-refused call command drive stops script running laws is.armed (opened-reads call stops is.armed laws log.tells data_device.tells is.log_as is.data_as keeps script)
      cause is.log_mid is.data_mid short
      (refused-at call stops is.armed laws log.tells data_device.tells is.log_as is.data_as cause (λ log_on data_on. refused (moved log_is log_on) (moved data_is data_on)))
      (refused-kept call stops is.armed laws log.tells data_device.tells is.log_as is.data_as cause (λ log_on data_on. refused (moved log_is log_on) (moved data_is data_on))
      (λ log_on data_on. weaker-both log.tells data_device.tells
      (λ log_disk data_disk unchanged refuses. let same = unchanged refuses in (
        sym log_is ∙ still-equal _ _ same.0.tells (moved log_is log_on) ∙ sym is.log_as,
        sym data_is ∙ still-equal _ _ same.1.tells (moved data_is data_on) ∙ sym is.data_as,
      ))
      (has.kept (moved log_is log_on) (moved data_is data_on) cause)))

  pub unopened-comes : (f : RecFault) (log_after data_after : Seen) → log_after.tells ≡ call.log.now.tells → data_after.tells ≡ call.store.now.tells
      → IsOpening (failures (log_error f)) (failures (data_error f)) log.tells data_device.tells call stops → data_device.size ≡ call.store.entry.size
      → ((reading : Reading) → WhereBothTell log.tells data_device.tells (λ log_disk data_disk. IsOpenable reading log_disk data_disk
      → f ≢ NoMemory → call.store.now.tells ≢ None → IfSome call.log.now.tells (IsNotOpened reading)))
      → HasFaultCause log data_device log_after data_after f → ComesTo call command drive stops script (unopened f)
  unopened-comes LogDev log_after data_after log_is data_is is sized unmoved has = (
    stopped-by is (λ reading. weaker-both {Q = λ log_disk data_disk. IsOpenable reading log_disk data_disk → call.store.now.tells ≢ None → IfSome call.log.now.tells (IsNotOpened reading)} log.tells data_device.tells
        (λ log_disk data_disk kept openable. kept openable (λ same. cc)) (unmoved reading)),
    omega (arith, is.log_mid),
  )
  unopened-comes DataDev log_after data_after log_is data_is is sized unmoved has = (
    stopped-by is (λ reading. weaker-both {Q = λ log_disk data_disk. IsOpenable reading log_disk data_disk → call.store.now.tells ≢ None → IfSome call.log.now.tells (IsNotOpened reading)} log.tells data_device.tells
        (λ log_disk data_disk kept openable. kept openable (λ same. cc)) (unmoved reading)),
    (omega (arith, is.data_mid), is.log_mid),
  )
  unopened-comes NoMemory log_after data_after log_is data_is is sized unmoved has = unplayed-memory call command drive stops script running laws is.armed
      (opened-reads call stops is.armed laws log.tells data_device.tells is.log_as is.data_as keeps script)
  unopened-comes (SmallLog n) log_after data_after log_is data_is is sized unmoved has = refused-by (SmallLog n) (refusal.SmallLog n) log_after data_after log_is data_is is has (λ m same. absurd (cc)) has.refused
  unopened-comes NotFormatted log_after data_after log_is data_is is sized unmoved has = refused-by NotFormatted refusal.NotFormatted log_after data_after log_is data_is is has (λ m same. absurd (cc)) has.refused
  unopened-comes (BadFormat n) log_after data_after log_is data_is is sized unmoved has = refused-by (BadFormat n) (refusal.BadFormat n) log_after data_after log_is data_is is has (λ m same. absurd (cc)) has.refused
  unopened-comes (SmallData n) log_after data_after log_is data_is is sized unmoved has = refused-by (SmallData n) (refusal.SmallData n) log_after data_after log_is data_is is has
      (λ m same. (let n_is : n ≡ m = cc in omega (arith, has.lengths, sized, n_is))) has.refused
  unopened-comes NoCheckpoint log_after data_after log_is data_is is sized unmoved has = refused-by NoCheckpoint refusal.NoCheckpoint log_after data_after log_is data_is is has (λ m same. absurd (cc)) has.refused
  unopened-comes (BadRecord lsn) log_after data_after log_is data_is is sized unmoved has = refused-by (BadRecord lsn) (refusal.BadRecord lsn) log_after data_after log_is data_is is has (λ m same. absurd (cc)) has.refused
  unopened-comes (PageLost p) log_after data_after log_is data_is is sized unmoved has = refused-by (PageLost p) (refusal.PageLost p) log_after data_after log_is data_is is has (λ m same. absurd (cc)) has.refused
  unopened-comes (PageAhead p lsn) log_after data_after log_is data_is is sized unmoved has = refused-by (PageAhead p lsn) (refusal.PageAhead p lsn) log_after data_after log_is data_is is has (λ m same. absurd (cc)) has.refused

-- A STORE THAT WAS OPENED on both
module _ {L D : Type 0} (log_seen : L → Seen) (data_seen : D → Seen) (call : LabCall) (command : Command) (drive : Drive) (stops : Stops) (script : List ScriptLine)
    (running : CommandRuns call.source call.source_now command drive script) (laws : Laws) (log data_told : Option Disk) (given : store.Opened (Fused L) (Fused D))
    (is : IsOpening 0 0 log data_told call stops)
    (keeps : (reading : Reading) → WhereBothTell log data_told (λ log_disk data_disk. IsOpenable reading log_disk data_disk
    → WhereBothTell call.log.now.tells call.store.now.tells (KeepsOpened reading)))
    (runnable : IsRunnable given) (read : WhereStillTold call.log.now.tells call.store.now.tells (OnContents log data_told (λ log_bytes data_bytes. IsOpeningOf log_bytes data_bytes given))) where
  abbrev ends : HasEnd log data_told call.log.now.tells call.store.now.tells given
  ends = has-end log data_told call.log.now.tells call.store.now.tells given runnable read

  -- for a script that fits it
  pub stands-ready : ((reading : Reading) → WhereStillTold call.log.now.tells call.store.now.tells (WhereBothTell log data_told (λ log_disk data_disk. IsOpenable reading log_disk data_disk
      → IsOpenedReady (seen_through log_seen) (seen_through data_seen) reading given)))
      → ScriptFits given.shape given.start (room_from drive.log_only given.shape given.start) script
      → ArchiveFits given.shape given.start (archive_size call.archive drive) script
      → StandsReady log_seen data_seen call drive stops script given
  stands-ready ready fits archive_fits = record {
    armed = is.armed;
    counted = is.counted;
    unfailed = omega (arith, is.log_mid, is.data_mid);
    opened = opened_at given ends.end;
    is_opened = record { shape = refl; pages = refl; start = ends.start; runnable = runnable };
    opens = opens-as call stops is.armed laws log data_told is.log_as is.data_as given ends;
    fits = subst (λ start. ScriptFits given.shape start (room_from drive.log_only given.shape start) script) ends.start fits;
    archive_fits = subst (λ start. ArchiveFits given.shape start (archive_size call.archive drive) script) ends.start archive_fits;
    reads = opened-reads call stops is.armed laws log data_told is.log_as is.data_as keeps script;
    ready = λ reading log_disk data_disk log_is data_is log_on data_on. both-told log data_told
        (λ log_disk data_disk. IsOpenable reading log_disk data_disk → IsOpenedReady (seen_through log_seen) (seen_through data_seen) reading given)
        (ready reading log_on data_on) log_disk data_disk (sym is.log_as ∙ log_is) (sym is.data_as ∙ data_is);
  }

  -- for one that doesn't
  pub misfits : (misfit : Misfit) → first_misfit given.shape given.start (room_from drive.log_only given.shape given.start) (archive_size call.archive drive) script ≡ Some misfit
      → EndsWith call command (outcome.Fault (fault.Fit misfit))
  misfits misfit first = unplayed-misfit call command drive stops script running laws is.armed (opened-reads call stops is.armed laws log data_told is.log_as is.data_as keeps script)
      (opened_at given ends.end) misfit is.log_mid is.data_mid (opens-as call stops is.armed laws log data_told is.log_as is.data_as given ends)
      (subst (λ start. first_misfit given.shape start (room_from drive.log_only given.shape start) (archive_size call.archive drive) script ≡ Some misfit) ends.start first)

  -- and where there is no memory to judge it
  pub unjudged : EndsWith call command (outcome.Fault fault.Memory)
  unjudged = unplayed-memory call command drive stops script running laws is.armed (opened-reads call stops is.armed laws log data_told is.log_as is.data_as keeps script)
