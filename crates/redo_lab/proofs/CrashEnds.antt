-- What a crash comes to: a report, with the crash theorem, or why there is none.
use Rattle.std.proofs.Common.{ℕ, ◌≡◌, ◌+◌, List, [], Option, Some, None, IfSome, refl, sym, subst, ◌∙◌, inr, arith, ◌≢◌, inl, false, ⊎_elim}
use Rattle.std.proofs.lemmas.Bool.{false≢true}
use Rattle.model_device.proofs.Images.{settled_images}
use Rattle.model_device.specs.{Crashes, IsImage, Disk}
use Rattle.model_report.specs.{IsLeft}
use Rattle.model_report.specs.declared.entry.Followed.{Followed}
use Rattle.model_report.specs.declared.fault.Fault.{Fault}
use Rattle.model_report.specs.declared.fault.Fault.TheVariants as fault
use Rattle.model_script.specs.declared.asked.Command.{Command}
use Rattle.model_script.specs.declared.asked.Command.TheVariants.{Crash}
use Rattle.model_script.specs.declared.asked.Drive.{Drive}
use Rattle.model_script.specs.declared.script.ScriptLine.{ScriptLine}
use Rattle.model_store.specs.{HasOldCopies, IsReading, Opens, Reading}
use Rattle.model_store.specs.declared.refusal.Refusal.{Refusal}
use Rattle.model_theorem.specs.{entries_of, IsPrefixRead, LosesOnlyByFailure, misfit_on, Opened, Ran, ReadsPrefix}
use Rattle.redo_drive.specs.declared.drive.RunEnd.TheVariants.{Done}
use Rattle.redo_lab.specs.declared.outcome.Outcome.{Outcome}
use Rattle.redo_lab.specs.declared.outcome.Outcome.TheVariants as outcome
use Rattle.redo_lab.specs.declared.playing.Stops.{Stops}
use Rattle.redo_disk.proofs.Told.{still-same}
use Rattle.redo_lab.proofs.ByDrive.{Drives, DrivesLater}
use Rattle.redo_lab.proofs.CrashTold.{armed-first, crashes-told, is-crashed}
use Rattle.redo_lab.proofs.Ends.{ends-with, legal-on, opens-stored}
use Rattle.redo_lab.proofs.Found.{one-opened}
use Rattle.redo_lab.proofs.Told.{some-told}
use Rattle.redo_lab.proofs.Rereading.{IsCrashedSince, ReadsTo, Was, before, prepared-later}
use Rattle.redo_lab.specs.Crash.{AreCrashedAs, CrashSafe, ReadsRun}
use Rattle.redo_lab.specs.Call.{IsScriptRead, BothDevices, IsLeftFair, IsUnfailedAside, LabCall, WhereOpened, WhereToldNow, mids}
use Rattle.redo_lab.specs.Cause.{AreOfRun, CanPlay, LeavesFailed, EndsWith, IsDoneOrKeptFrom, IsOutcome}
use Rattle.redo_lab.specs.Laws.{Laws}
use Rattle.redo_lab.specs.Runs.{HasFailed, IsLeftBy, IsReportOf, IsToldRightly}
use Rattle.redo_lab.specs.Told.{AreReadAsPrefix, AreRefused, AreMarksRead, AreToldOf, HasRunScript, IsOpenedFirst, LeavesStore}

-- of an opening that a device stopped something is lost only by that
lost-stopped : (call : LabCall) (f : Fault) (left : List (ℕ × ℕ)) → HasFailed call f
    → LosesOnlyByFailure (mids call) None left
lost-stopped call fault.LogDevice left some =
    record { lost = λ i entry at lost. omega arith; left = λ more. omega arith; stopped = λ none. omega arith }
lost-stopped call fault.DataDevice left some =
    let more = some.0 in
    record { lost = λ i entry at lost. omega arith; left = λ more. omega arith; stopped = λ none. omega arith }
lost-stopped call f left some = absurd some

pub told-stopped : (call : LabCall) (drive : Drive) (script : List ScriptLine) (f : Fault) → HasFailed call f
    → IsToldRightly call drive script None []
told-stopped call drive script f some = record {
  loses = λ left left_is. inl (lost-stopped call f left some);
  marks = tt;
  followers = refl;
}

module _ (call : LabCall) (drives : Drives) (later : DrivesLater drives call.drives) (drive : Drive) (stops : Stops)
    (pick workers : ℕ) (script : List ScriptLine) (run : Option Ran) (follows : List Followed)
    (log_was data_was : Was) (laws : Laws)
    (read : IsScriptRead call.source call.source_now script)
    (left_by : IsLeftBy (before call drives log_was data_was) (Crash drive stops.log stops.store pick workers) drive stops script run follows Done)
    (told : IsToldRightly (before call drives log_was data_was) drive script run follows) (unarchived : drive.archive ≡ false) where
  abbrev asked : Command
  asked = Crash drive stops.log stops.store pick workers

  abbrev Since : ℕ → ℕ → Type 0
  Since log_failed data_failed = IsCrashedSince stops.log pick log_failed log_was call.log × IsCrashedSince stops.store pick data_failed data_was call.store

  module _ {log_failed data_failed : ℕ} (since : Since log_failed data_failed) where
    -- OPENING CAME TO ITS END just where a run took place.
    crash-first : IsOpenedFirst call call.log.now.crashed_from run
    crash-first opened log data_disk log_is data_is log_on data_on log_fresh data_fresh opens armed_from disk armed_is met_is =
        left_by.opened_first opened log data_disk log_is data_is (since.0.arming.back log_on) (since.1.arming.back data_on) log_fresh data_fresh opens armed_from disk (sym since.0.arming.told ∙ armed_is) (sym since.0.from ∙ met_is)

    -- WHAT IT LEFT is read as a prefix of the run, where both devices' images are fair.
    left-reads : (opened : Opened) → WhereOpened call opened (IsLeftFair call opened → WhereToldNow call (λ log store. ReadsPrefix script opened run log.reads store.reads))
    left-reads opened log data_disk log_is data_is log_on data_on log_fresh data_fresh opens fair log_now data_now log_now_is data_now_is =
        let log_at = some-told log_was.now.tells (since.0.arming.back log_on) in
        let data_at = some-told data_was.now.tells (since.1.arming.back data_on) in
        left_by.reads opened log data_disk log_is data_is (since.0.arming.back log_on) (since.1.arming.back data_on) log_fresh data_fresh opens log_at.0 data_at.0 log_at.1 data_at.1 log_now.reads data_now.reads
        (fair.log pick log_at.0 log_now since.0.pick_is (since.0.from ∙ log_at.1) log_now_is)
        (fair.store pick data_at.0 data_now since.1.pick_is (since.1.from ∙ data_at.1) data_now_is)

    -- EACH IMAGE of it is read so: of each device there is one.
    images-read : (opened : Opened) → WhereOpened call opened (IsLeftFair call opened → WhereToldNow call (AreReadAsPrefix script opened run))
    images-read opened log data_disk log_is data_is log_on data_on log_fresh data_fresh opens fair log_now data_now log_now_is data_now_is log_bytes data_bytes image is_fair =
        let log_at = some-told log_was.now.tells (since.0.arming.back log_on) in
        let data_at = some-told data_was.now.tells (since.1.arming.back data_on) in
        let log_same : log_bytes ≡ log_now.reads =
        one-image log_at.0 log_now (crashes-told log_was.now.tells call.log.now.tells log_at.0 log_now since.0.left log_at.1 log_now_is) log_bytes image.possible in
        let data_same : data_bytes ≡ data_now.reads =
        one-image data_at.0 data_now (crashes-told data_was.now.tells call.store.now.tells data_at.0 data_now since.1.left data_at.1 data_now_is) data_bytes is_fair.possible in
        subst (λ (bytes : List ℕ). ReadsPrefix script opened run log_bytes bytes) (sym data_same)
        (subst (λ (bytes : List ℕ). ReadsPrefix script opened run bytes data_now.reads) (sym log_same)
        (left-reads opened log data_disk log_is data_is log_on data_on log_fresh data_fresh opens fair log_now data_now log_now_is data_now_is))
      where
        one-image : (met left : Disk) → Crashes met left → (bytes : List ℕ) → IsImage left bytes → bytes ≡ left.reads
        one-image met left crashes = subst (λ (d : Disk). (bytes : List ℕ) → IsImage d bytes → bytes ≡ d.reads) (sym crashes.left) (settled_images crashes.image).1

    -- and is accepted
    crash-leaves : LeavesStore call
    crash-leaves opened log data_disk log_is data_is log_on data_on log_fresh data_fresh stored fair log_now data_now log_now_is data_now_is log_bytes data_bytes image is_fair =
        let read = images-read opened log data_disk log_is data_is log_on data_on log_fresh data_fresh (opens-stored call opened log data_disk stored) fair
        log_now data_now log_now_is data_now_is log_bytes data_bytes image is_fair in
        (read.reading, read.is_read, read.old_copies)

    crashed-as : AreCrashedAs stops.log stops.store pick call
    crashed-as = (is-crashed log_was call.log since.0, is-crashed data_was call.store since.1)

    left-crashed : LeavesFailed call asked
    left-crashed runs =
        let is : AreOfRun call asked = record {
          script = script;
          run = run;
          is_script = read;
          in_run = inr crashed-as;
          reads = λ store log data_disk log_is data_is log_on data_on log_fresh data_fresh opens fair log_now data_now log_now_is data_now_is. (
            legal-on (before call drives log_was data_was) asked drive left_by.opened script run follows Done _ _ laws left_by.ran store log data_disk log_is data_is (since.0.arming.back log_on) (since.1.arming.back data_on) log_fresh data_fresh opens,
            images-read store log data_disk log_is data_is log_on data_on log_fresh data_fresh opens fair log_now data_now log_now_is data_now_is,
          );
        } in
        inr is

    -- an outcome of the crash
    ends-crash : (o : Outcome) → IsOutcome call asked o → (CanPlay call drive script → BothDevices IsUnfailedAside call → IsDoneOrKeptFrom asked o) → EndsWith call asked o
    ends-crash o means complete = ends-with call asked drive script (record { asked = refl; is_script = read; unread = λ plain. absurd (false≢true (sym plain)) }) laws o
        (since.0.armed.same.tells, since.1.armed.same.tells) crash-leaves means complete

    -- the run as the crash met it
    as-met : {log_met store_met : Option Disk} → log_met ≡ log_was.now.tells → store_met ≡ data_was.now.tells
        → IfSome run (λ run. HasRunScript call asked drive left_by.opened script run follows Done log_met store_met)
    as-met log_is store_is = met-on run _ _ log_is store_is left_by.ran
      where
        met-on : (run : Option Ran) (log_met store_met : Option Disk) → log_met ≡ log_was.now.tells → store_met ≡ data_was.now.tells
            → IfSome run (λ run. HasRunScript (before call drives log_was data_was) asked drive left_by.opened script run follows Done log_was.now.tells data_was.now.tells)
            → IfSome run (λ run. HasRunScript call asked drive left_by.opened script run follows Done log_met store_met)
        met-on None log_met store_met log_is store_is took = tt
        met-on (Some run) log_met store_met log_is store_is took = record {
          is_script = read;
          opens = λ log data_disk log_is data_is log_on data_on. took.opens log data_disk log_is data_is (since.0.arming.back log_on) (since.1.arming.back data_on);
          fits = took.fits;
          in_lsn_order = took.in_lsn_order;
          driven = later drive left_by.opened script run follows Done _ _ _ _ (still-same _ _ log_is) (still-same _ _ store_is) took.driven;
        }

    -- and its marks, which were read then
    marks-met : {log_met store_met : Option Disk} → log_met ≡ log_was.now.tells → store_met ≡ data_was.now.tells
        → AreMarksRead call drive run log_met store_met
    marks-met log_is store_is = met-on run _ _ log_is store_is told.marks
      where
        met-on : (run : Option Ran) (log_met store_met : Option Disk)
            → log_met ≡ log_was.now.tells → store_met ≡ data_was.now.tells
            → AreMarksRead (before call drives log_was data_was) drive run log_was.now.tells data_was.now.tells
            → AreMarksRead call drive run log_met store_met
        met-on None log_met store_met log_same store_same read = tt
        met-on (Some run) log_met store_met log_same store_same read =
            λ threads unfailed alive opened log data_disk log_is data_is log_on data_on log_fresh data_fresh opens
            log_at data_at log_at_is data_at_is. read threads (omega (arith, unfailed, since.0.mid, since.1.mid)) alive
            opened log data_disk log_is data_is (since.0.arming.back log_on) (since.1.arming.back data_on)
            log_fresh data_fresh opens log_at data_at (sym log_same ∙ log_at_is) (sym store_same ∙ data_at_is)

    -- and what is told of its followers
    followers-met : {log_met store_met : Option Disk} → log_met ≡ log_was.now.tells → store_met ≡ data_was.now.tells
        → AreToldOf call drive script run follows log_met store_met
    followers-met log_is store_is = met-on run _ _ log_is store_is told.followers
      where
        met-on : (run : Option Ran) (log_met store_met : Option Disk)
            → log_met ≡ log_was.now.tells → store_met ≡ data_was.now.tells
            → AreToldOf (before call drives log_was data_was) drive script run follows
            log_was.now.tells data_was.now.tells
            → AreToldOf call drive script run follows log_met store_met
        met-on None log_met store_met log_same store_same were = were
        met-on (Some run) log_met store_met log_same store_same were = record {
          count = were.count;
          numbered = were.numbered;
          each = λ opened log data_disk log_is data_is log_on data_on log_fresh data_fresh opens
              log_at data_at log_at_is data_at_is.
              were.each opened log data_disk log_is data_is (since.0.arming.back log_on) (since.1.arming.back data_on)
              log_fresh data_fresh opens log_at data_at (sym log_same ∙ log_at_is) (sym store_same ∙ data_at_is);
        }

    lost-by : (left : List (ℕ × ℕ)) → IsLeft script (entries_of run) left → LosesOnlyByFailure (call.log.fuse.mid + call.store.fuse.mid) run left
    lost-by left left_is =
        let counted : log_was.fuse.mid + data_was.fuse.mid ≡ call.log.fuse.mid + call.store.fuse.mid = omega (arith, since.0.mid, since.1.mid) in
        subst (λ (n : ℕ). LosesOnlyByFailure n run left) counted
        (⊎_elim (λ lost. lost) (λ archived. absurd (false≢true (sym unarchived ∙ archived.0))) (told.loses left left_is))

  unfailed-aside : Since 0 0 → BothDevices IsUnfailedAside call
  unfailed-aside since = ((since.0.armed.early, since.0.armed.late), (since.1.armed.early, since.1.armed.late))

  -- THE CRASH THEOREM, of the report and what was read.
  module _ (since : Since 0 0) (text : List ℕ) (reading : Reading) (is_read : WhereToldNow call (λ log store. IsReading log.reads store.reads reading))
      (report : IsReportOf script run follows (Some (reading.end, reading.pages)) text) where
    reads-run : (opened : Opened) → WhereOpened call opened (IsLeftFair call opened → ReadsRun call drive.log_only opened script run reading)
    reads-run opened log data_disk log_is data_is log_on data_on log_fresh data_fresh opens fair =
        let kept = left-reads since opened log data_disk log_is data_is log_on data_on log_fresh data_fresh opens fair in
        let log_left = some-told call.log.now.tells log_on in
        let data_left = some-told call.store.now.tells data_on in
        record {
          fits = fits-on run log data_disk log_is data_is (since.0.arming.back log_on) (since.1.arming.back data_on) opens left_by.ran;
          in_lsn_order = legal-on (before call drives log_was data_was) asked drive left_by.opened script run follows Done _ _ laws left_by.ran opened
              log data_disk log_is data_is (since.0.arming.back log_on) (since.1.arming.back data_on) log_fresh data_fresh opens;
          first_groups_whole =
              (let prefix = kept log_left.0 data_left.0 log_left.1 data_left.1 in
              subst (IsPrefixRead script opened run)
              (one log_left.0 data_left.0 log_left.1 data_left.1 prefix) prefix.prefix);
          old_copies = λ log_now data_now log_now_is data_now_is.
              (let prefix = kept log_now data_now log_now_is data_now_is in
              subst (HasOldCopies data_now.reads) (one log_now data_now log_now_is data_now_is prefix) prefix.old_copies);
        }
      where
        one : (log_now data_now : Disk) → call.log.now.tells ≡ Some log_now → call.store.now.tells ≡ Some data_now
            → (prefix : ReadsPrefix script opened run log_now.reads data_now.reads) → prefix.reading ≡ reading
        one log_now data_now log_now_is data_now_is prefix =
            laws.one_reading log_now.reads data_now.reads prefix.reading reading prefix.is_read (is_read log_now data_now log_now_is data_now_is)

        fits-on : (run : Option Ran) (log data_disk : Disk) → call.log.entry.tells ≡ Some log → call.store.entry.tells ≡ Some data_disk
            → log_was.now.tells ≢ None → data_was.now.tells ≢ None
            → Opens log.reads data_disk.reads opened.shape opened.pages opened.end
            → IfSome run (λ run. HasRunScript (before call drives log_was data_was) asked drive left_by.opened script run follows Done log_was.now.tells data_was.now.tells)
            → IfSome run (λ run. misfit_on drive.log_only None opened script ≡ None)
        fits-on None log data_disk log_is data_is log_on data_on opens took = tt
        fits-on (Some run) log data_disk log_is data_is log_on data_on opens took =
            subst (λ (o : Opened). misfit_on drive.log_only None o script ≡ None) (one-opened laws log data_disk left_by.opened opened (took.opens log data_disk log_is data_is log_on data_on) opens) took.fits

    crash-text : CrashSafe call drive stops.log stops.store pick workers text
    crash-text = record {
      opened = left_by.opened;
      script = script;
      run = run;
      left = report.left;
      follows = follows;
      reading = reading;
      every_script = record {
        is_script = read;
        ran = as-met since since.0.from since.1.from;
        left_is = report.left_is;
        loses = inl (lost-by since report.left report.left_is);
        marks = marks-met since since.0.from since.1.from;
        followers = followers-met since since.0.from since.1.from;
        opened_first = crash-first since;
      };
      any_stops = crashed-as since;
      armed_first = armed-first call log_was data_was laws
          (prepared-later call log_was data_was since.0.arming since.1.arming left_by.armed.prepared)
          (omega (arith, left_by.counted, since.0.passed, since.0.mid)) since.0 since.1;
      prints = report.text_is;
      read_from_devices = is_read;
      first_groups_whole = reads-run;
      lost_only_by_failure = lost-by since report.left report.left_is;
    }

  -- A STORE THAT CAN BE RUN ON is not refused after the crash.
  possible-read-back : {log_failed data_failed : ℕ} (cause : Refusal) → Since log_failed data_failed → WhereToldNow call (AreRefused cause) → CanPlay call drive script → ⊥
  possible-read-back cause since refused can =
      let log_left = some-told call.log.now.tells can.log_still in
      let data_left = some-told call.store.now.tells can.store_still in
      let kept = left-reads since can.opened can.log can.store can.log_tells can.store_tells can.log_still can.store_still can.log_fresh can.store_fresh can.opens can.fair
      log_left.0 data_left.0 log_left.1 data_left.1 in
      laws.one_answer log_left.0.reads data_left.0.reads kept.reading cause kept.is_read (refused log_left.0 data_left.0 log_left.1 data_left.1)

  -- WHAT THE CRASH COMES TO, by what is read after it.
  pub crash-reads : ReadsTo Since call.log.now.tells call.store.now.tells
      (λ reading. IsReportOf script run follows (Some (reading.end, reading.pages))) (EndsWith call asked)
  crash-reads = record {
    read = λ reading text since is_read report. ends-crash since (outcome.Text text) (unfailed-aside since, crash-text since text reading is_read report) (λ can unfailed. tt);
    refused = λ cause since refused. ends-crash since (outcome.Fault (fault.Store cause))
        ((λ reads. (script, read)), unfailed-aside since, inr (crashed-as since, refused)) (λ can unfailed. absurd (possible-read-back cause since refused can));
    memory = λ since. ends-crash since (outcome.Fault fault.Memory) (left-crashed since) (λ can unfailed. tt);
    log_fails = λ since. ends-crash since (outcome.Fault fault.LogDevice)
        ((λ reads. (script, read)), (since.0.armed.risen (omega arith), omega (arith, since.0.armed.late)), tt, left-crashed since)
        (λ can unfailed. absurd (omega (arith, since.0.armed.late, unfailed.0.1)));
    data_fails = λ since. ends-crash since (outcome.Fault fault.DataDevice)
        ((λ reads. (script, read)), (since.1.armed.risen (omega arith), omega (arith, since.1.armed.late)), tt, left-crashed since)
        (λ can unfailed. absurd (omega (arith, since.1.armed.late, unfailed.1.1)));
  }
