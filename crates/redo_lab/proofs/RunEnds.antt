-- What `run` and `gen --run` come to whose run a device stopped in opening, or whose lines were run.
use Rattle.std.proofs.Common.{ℕ, ◌≡◌, ◌≤◌, ◌<◌, ◌+◌, true, false, List, [], Option, Some, None, sym, subst, ◌∙◌, inr, ⊎_elim, arith, inl}
use Rattle.std.proofs.lemmas.Bool.{false≢true}
use Rattle.model_base.specs.{HasRisen}
use Rattle.model_report.specs.{IsLeft}
use Rattle.model_report.specs.declared.entry.Followed.{Followed}
use Rattle.model_report.specs.declared.fault.Fault.{Fault}
use Rattle.model_report.specs.declared.fault.Fault.TheVariants as fault
use Rattle.model_script.specs.declared.asked.Command.{Command}
use Rattle.model_script.specs.declared.asked.Command.TheVariants.{Gen, Run}
use Rattle.model_script.specs.declared.asked.Drive.{Drive}
use Rattle.model_script.specs.declared.script.ScriptLine.{ScriptLine}
use Rattle.model_store.specs.declared.refusal.Refusal.{Refusal}
use Rattle.model_theorem.specs.{LosesOnlyByFailure, Ran}
use Rattle.redo_memdisk.specs.declared.fuse.Stage.{Stage}
use Rattle.redo_drive.specs.declared.drive.RunEnd.TheVariants.{Done}
use Rattle.redo_lab.specs.declared.outcome.Outcome.{Outcome}
use Rattle.redo_lab.specs.declared.outcome.Outcome.TheVariants as outcome
use Rattle.redo_lab.specs.declared.playing.Course.TheVariants.{Played, Stopped}
use Rattle.redo_lab.specs.declared.playing.Played as declared
use Rattle.redo_lab.proofs.Ends.{IsUncrashing, aside-armed, ends-failed, ends-left, in-run, left-memory, no_stops, runs-script, runs-scripted, uncrashing-gen, unfailed-armed}
use Rattle.redo_lab.proofs.Found.{prefix-none}
use Rattle.redo_lab.proofs.Told.{some-told, still-at}
use Rattle.redo_lab.proofs.ByDrive.{Drives, DrivesLater}
use Rattle.redo_lab.proofs.Rereading.{IsReadSince, ReadsTo, Was, before, prepared-later}
use Rattle.redo_lab.proofs.SomeLeft.{some-left}
use Rattle.redo_lab.specs.Call.{IsScriptFor, IsScriptRead, drive_of_seed, Guarded, LabCall, Unfused, WhereToldNow, mids}
use Rattle.redo_lab.specs.Cause.{CanPlay, EndsWith, SparesArchive, WhereDone}
use Rattle.redo_lab.specs.Devices.{IsArmed}
use Rattle.redo_lab.specs.Laws.{Laws}
use Rattle.redo_lab.specs.Runs.{ComesTo, CommandRuns, HasEnded, HasFailed, IsLeftBy, IsPlayedTo, IsReportOf, IsRunPrinted, IsToldRightly, IsUncut, ran_of, summary_of}
use Rattle.redo_lab.specs.Told.{AreRefused, IsArchived, IsReportWith, IsRunText, IsSummaryText}

-- OPENING WAS STOPPED.
pub ends-stopped : (call : LabCall) (command : Command) (drive : Drive) (script : List ScriptLine) → CommandRuns call.source call.source_now command drive script → Laws
    → IsUncrashing call command → (f : Fault) → ComesTo call command drive no_stops script (Stopped f) → EndsWith call command (outcome.Fault f)
ends-stopped call command drive script running laws uncrashing f is = ends-failed call command drive script running laws uncrashing f is.0
    (uncrashing.unbegun (
      is.0.opened_first,
      λ opened log data_disk log_is data_is log_on data_on log_fresh data_fresh opens log_now data_now log_now_is data_now_is log_bytes data_bytes image fair.
          prefix-none script [] opened log_bytes data_bytes
          (is.0.reads opened log data_disk log_is data_is log_on data_on log_fresh data_fresh opens log_now data_now log_now_is data_now_is log_bytes data_bytes image fair),
    ))
    is.1

-- a run that isn't archived is ended by one of the two devices
pub only-failed : (call : LabCall) (drive : Drive) → drive.archive ≡ false → (f : Fault) → HasEnded call drive f → HasFailed call f
only-failed call drive not fault.ArchiveDevice ended = absurd (false≢true (sym not ∙ ended.0.0))
only-failed call drive not f ended = ended

-- a run whose lines were run isn't bound to spare its archive's device
pub spares-printed : (archive : Unfused) (script : List ScriptLine) (played : declared.Played) (f : Option Fault) (o : Outcome)
    → IsRunPrinted script (ran_of played) played.follows.items f o → SparesArchive archive o
spares-printed archive script played f (outcome.Text text) printed = tt
spares-printed archive script played f (outcome.Report text cut) printed = tt
spares-printed archive script played f (outcome.Fault fault) printed = subst (λ (f : Fault). SparesArchive archive (outcome.Fault f)) (sym printed) tt

-- where a run comes to its text no device ended it
pub uncut-printed : (script : List ScriptLine) (played : declared.Played) (f : Option Fault) (o : Outcome)
    → IsRunPrinted script (ran_of played) played.follows.items f o → WhereDone o (IsUncut (Played played f))
uncut-printed script played f (outcome.Text text) printed = subst (λ (f : Option Fault). IsUncut (Played played f))
    (sym printed.0) tt
uncut-printed script played f (outcome.Report text cut) printed = tt
uncut-printed script played f (outcome.Fault fault) printed = tt

-- A TEXT OF A RUN
run-text : (call : LabCall) (command : Command) (drive : Drive) (script : List ScriptLine) (run : Ran) (left : List (ℕ × ℕ))
    (follows : List Followed) (IsTextOf : List ScriptLine → Ran → List (ℕ × ℕ) → List Followed → List ℕ → Type 0)
    (text : List ℕ) → IsScriptFor command call.source call.source_now script
    → IsLeftBy call command drive no_stops script (Some run) follows Done → IsToldRightly call drive script (Some run) follows
    → IsLeft script run.entries left → IsTextOf script run left follows text
    → IsRunText call command drive IsTextOf text
run-text call command drive script run left follows IsTextOf text is_script is told left_is text_is = record {
  opened = is.opened;
  script = script;
  run = run;
  left = left;
  follows = follows;
  account = record {
    is_script = is_script;
    ran = is.ran;
    left_is = left_is;
    loses = told.loses left left_is;
    marks = told.marks;
    followers = told.followers;
    opened_first = is.opened_first;
  };
  in_run = in-run is.armed;
  reads = is.reads;
  text_is = text_is;
}

-- a device that isn't stopped fails by itself
risen-unstopped : {device : Guarded} {stage : Stage} {late : ℕ} → IsArmed None stage late device → 0 < device.fuse.mid → HasRisen device.entry.faults device.now.faults
risen-unstopped was some = ⊎_elim (λ risen. risen) (λ passed. absurd (false≢true passed)) (was.cause some)

module _ (call : LabCall) (drive : Drive) (script : List ScriptLine) (played : declared.Played) (read : IsScriptRead call.source call.source_now script) (laws : Laws) where
  run-told : (IsUpTo : (mark flushed : ℕ) → Type 0) (f : Option Fault) (text : List ℕ) → ComesTo call (Run drive) drive no_stops script (Played played f)
      → IsArchived IsUpTo call drive script (ran_of played)
      → IsReportOf script (Some (ran_of played)) played.follows.items None text
      → IsRunText call (Run drive) drive (IsReportWith IsUpTo call drive) text
  run-told IsUpTo f text was archived report = run-text call (Run drive) drive script (ran_of played) report.left played.follows.items
      (IsReportWith IsUpTo call drive) text read was.0 was.1 report.left_is (report.text_is, archived)

  run-reported : (f : Fault) (text : List ℕ)
      → ComesTo call (Run drive) drive no_stops script (Played played (Some f))
      → IsReportOf script (Some (ran_of played)) played.follows.items None text
      → EndsWith call (Run drive) (outcome.Report text f)
  run-reported fault.LogDevice text was report = ends-left call (Run drive) drive script (runs-scripted drive None read) laws was.0 (outcome.Report text fault.LogDevice)
      (run-told (λ mark flushed. mark ≤ flushed) (Some fault.LogDevice) text was was.3 report, (risen-unstopped was.0.armed.log_device was.2, was.2), aside-armed was.0.armed)
      (λ can unfailed. absurd (omega (arith, unfailed.0.1, was.2)))
  run-reported fault.DataDevice text was report = ends-left call (Run drive) drive script (runs-scripted drive None read) laws was.0 (outcome.Report text fault.DataDevice)
      (run-told (λ mark flushed. mark ≤ flushed) (Some fault.DataDevice) text was was.3 report, (risen-unstopped was.0.armed.data_device was.2.0, was.2.0, was.2.1), aside-armed was.0.armed)
      (λ can unfailed. absurd (omega (arith, unfailed.1.1, was.2.0)))
  run-reported fault.ArchiveDevice text was report = ends-left call (Run drive) drive script (runs-scripted drive None read) laws was.0 (outcome.Report text fault.ArchiveDevice)
      (run-told (λ mark flushed. mark ≤ flushed) (Some fault.ArchiveDevice) text was was.3 report, (was.2.0.1, was.2.1), aside-armed was.0.armed)
      (λ can unfailed. absurd (can.archive_unfailed was.2.0.0 was.2.0.1))
  run-reported f text was report = absurd was.2

  -- THE LINES WERE RUN.
  pub run-played : (f : Option Fault) (o : Outcome) → ComesTo call (Run drive) drive no_stops script (Played played f)
      → IsRunPrinted script (ran_of played) played.follows.items f o → EndsWith call (Run drive) o
  run-played f (outcome.Text text) was printed =
      let done = subst (λ (f : Option Fault). ComesTo call (Run drive) drive no_stops script (Played played f)) printed.0 was in
      ends-left call (Run drive) drive script (runs-scripted drive None read) laws was.0 (outcome.Text text)
      (unfailed-armed was.0.armed (omega (arith, done.2.0)) (omega (arith, done.2.0)), run-told (λ mark flushed. mark ≡ flushed) None text done done.3 printed.1) (λ can unfailed. tt)
  run-played f (outcome.Report text cut) was printed =
      run-reported cut text (subst (λ (f : Option Fault). ComesTo call (Run drive) drive no_stops script (Played played f)) printed.0 was) printed.1
  run-played f (outcome.Fault fault) was printed = subst (λ (fault : Fault). EndsWith call (Run drive) (outcome.Fault fault)) (sym printed)
      (left-memory call (Run drive) drive script (runs-scripted drive None read) laws was.0)

module _ (call : LabCall) (drives : Drives) (later : DrivesLater drives call.drives) (seed users groups max : ℕ)
    (script : List ScriptLine) (run : Ran) (follows : List Followed) (log_was data_was : Was) (laws : Laws)
    (running : CommandRuns call.source call.source_now (Gen seed users groups true max) (drive_of_seed seed max) script)
    (left_by : IsLeftBy (before call drives log_was data_was) (Gen seed users groups true max) (drive_of_seed seed max) no_stops script (Some run) follows Done)
    (told : IsToldRightly (before call drives log_was data_was) (drive_of_seed seed max) script (Some run) follows)
    (played : IsPlayedTo (before call drives log_was data_was) (drive_of_seed seed max) None) where
  abbrev asked : Command
  asked = Gen seed users groups true max

  abbrev drive : Drive
  drive = drive_of_seed seed max

  abbrev Since : ℕ → ℕ → Type 0
  Since log_failed data_failed = IsReadSince log_failed log_was call.log × IsReadSince data_failed data_was call.store

  -- READS LEAVE the run as it was.
  read-left : {log_failed data_failed : ℕ} → Since log_failed data_failed → IsLeftBy call asked drive no_stops script (Some run) follows Done
  read-left since =
      let driven = left_by.ran.driven in
      record {
        armed = record {
          prepared = prepared-later call log_was data_was since.0.arming since.1.arming left_by.armed.prepared;
          log_device = since.0.armed;
          data_device = since.1.armed;
        };
        counted = (let some = since.0.passed (omega (arith, left_by.counted, played.0)) in omega arith);
        opened = left_by.opened;
        ran = record {
          is_script = running.is_script;
          opens = λ log data_disk log_is data_is log_on data_on. left_by.ran.opens log data_disk log_is data_is (since.0.arming.back log_on) (since.1.arming.back data_on);
          fits = left_by.ran.fits;
          in_lsn_order = left_by.ran.in_lsn_order;
          driven = later drive left_by.opened script run follows Done _ _ _ _ since.0.tells since.1.tells driven;
        };
        opened_first = λ opened log data_disk log_is data_is log_on data_on log_fresh data_fresh opens armed_from disk armed_is now_is.
            left_by.opened_first opened log data_disk log_is data_is (since.0.arming.back log_on) (since.1.arming.back data_on) log_fresh data_fresh opens armed_from disk
            (sym since.0.arming.told ∙ armed_is) (still-at _ _ disk since.0.tells now_is);
        reads = λ opened log data_disk log_is data_is log_on data_on log_fresh data_fresh opens log_now data_now log_now_is data_now_is.
            left_by.reads opened log data_disk log_is data_is (since.0.arming.back log_on) (since.1.arming.back data_on) log_fresh data_fresh opens log_now data_now
            (still-at _ _ log_now since.0.tells log_now_is) (still-at _ _ data_now since.1.tells data_now_is);
      }

  told-still : Since 0 0 → IsToldRightly call drive script (Some run) follows
  told-still since = record {
    loses = λ left left_is. (let counted : log_was.fuse.mid + data_was.fuse.mid ≡ mids call =
        omega (arith, played.0, since.0.mid, since.1.mid) in
        ⊎_elim (λ lost. inl (subst (λ (n : ℕ). LosesOnlyByFailure n (Some run) left) counted lost)) (λ archived. inr archived) (told.loses left left_is));
    marks = λ threads. absurd (false≢true threads);
    followers = record {
      count = told.followers.count;
      numbered = told.followers.numbered;
      each = λ opened log data_disk log_is data_is log_on data_on log_fresh data_fresh opens
          log_now data_now log_now_is data_now_is.
          told.followers.each opened log data_disk log_is data_is
          (since.0.arming.back log_on) (since.1.arming.back data_on) log_fresh data_fresh opens log_now data_now
          (still-at _ _ log_now since.0.tells log_now_is) (still-at _ _ data_now since.1.tells data_now_is);
    };
  }

  -- A STORE THAT CAN BE RUN ON is not refused after the run.
  possible-read-after : (cause : Refusal) → Since 0 0 → WhereToldNow call (AreRefused cause) → CanPlay call (drive_of_seed seed max) script → ⊥
  possible-read-after cause since refused can =
      let log_left = some-told call.log.now.tells can.log_still in
      let data_left = some-told call.store.now.tells can.store_still in
      let read = played.1 can.opened can.log can.store can.log_tells can.store_tells (since.0.arming.back can.log_still) (since.1.arming.back can.store_still) can.log_fresh can.store_fresh can.opens
      log_left.0 data_left.0 (still-at _ _ log_left.0 since.0.tells log_left.1) (still-at _ _ data_left.0 since.1.tells data_left.1) in
      laws.one_answer log_left.0.reads data_left.0.reads read.0 cause read.1 (refused log_left.0 data_left.0 log_left.1 data_left.1)

  -- WHAT IT COMES TO, by what is read after it.
  pub gen-reads : ReadsTo Since call.log.now.tells call.store.now.tells (λ reading text. text ≡ summary_of run reading) (EndsWith call asked)
  gen-reads =
      let left = some-left script run.entries in
      record {
        read = λ reading text since is_read text_is. ends-left call asked drive script running laws (read-left since) (outcome.Text text) (
          unfailed-armed (read-left since).armed since.0.mid since.1.mid,
          run-text call asked drive script run left.0 follows (IsSummaryText call) text running.is_script
              (read-left since) (told-still since) left.1 (reading, is_read, text_is),
        )
            (λ can unfailed. tt);
        refused = λ cause since refused. ends-left call asked drive script running laws (read-left since) (outcome.Fault (fault.Store cause)) (
          (runs-script call asked drive script running).past,
          unfailed-armed (read-left since).armed since.0.mid since.1.mid,
          inr (in-run (read-left since).armed, refused),
        )
            (λ can unfailed. absurd (possible-read-after cause since refused can));
        memory = λ since. left-memory call asked drive script running laws (read-left since);
        log_fails = λ since. ends-failed call asked drive script running laws (uncrashing-gen call seed users groups max) fault.LogDevice
            (read-left since) tt (omega (arith, since.0.mid));
        data_fails = λ since. ends-failed call asked drive script running laws (uncrashing-gen call seed users groups max) fault.DataDevice
            (read-left since) tt (omega (arith, since.1.mid), since.0.mid);
      }
