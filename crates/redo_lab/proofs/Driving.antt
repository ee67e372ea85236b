-- The run of a script on a store that stands opened, by a drive, and what it leaves.
use Rattle.std.proofs.Common.{Global, Vec, ℕ, ◌≡◌, ◌+◌, ◌<◌, ◌≤◌, true, List, Option, Some, None, refl, sym, ap, subst, ◌∙◌, inl, inr, ⊎_elim, arith, ◌≢◌}
use Rattle.std.specs.List.{AllByRecursion, AllZip}
use Rattle.model_base.specs.{run_shape}
use Rattle.model_base.specs.declared.shape.Shape.{Shape}
use Rattle.model_device.specs.{synced, Disk}
use Rattle.model_parts.specs.{IsReady, numbers_taken}
use Rattle.model_report.specs.{IsLeft, IsLegal}
use Rattle.model_report.specs.declared.entry.Followed.{Followed}
use Rattle.model_script.specs.{LineFits}
use Rattle.model_script.specs.declared.asked.Command.{Command}
use Rattle.model_script.specs.declared.asked.Drive.{Drive}
use Rattle.model_script.specs.declared.script.ScriptLine.{ScriptLine}
use Rattle.model_store.specs.{IsFairLog, IsReading, Reading}
use Rattle.model_theorem.specs.{IsClosed, IsHeld, IsOpenedBefore, IsRun, IsStart, LosesOnlyByFailure, Opened, opened_as, Ran}
use Rattle.redo_disk.specs.{Call, failures, MakesCalls, MayEndWith, Seen}
use Rattle.redo_disk.specs.declared.error.DevError.{DevError}
use Rattle.redo_disk.specs.declared.error.DevError.TheVariants as device
use Rattle.redo_disk.proofs.Made.{may_end}
use Rattle.redo_disk.proofs.Told.{still-known}
use Rattle.redo_drive.specs.{HasMemory, AreNewFollowers, HasReading, followers_in, views_of}
use Rattle.redo_drive.specs.Drive.{ReadsToMarks, failed_in}
use Rattle.redo_drive.specs.Followed.{HasFollowed, HaveFollowed}
use Rattle.redo_drive.specs.declared.actor.Actor.{Actor}
use Rattle.redo_drive.specs.declared.drive.Driven.{Driven}
use Rattle.redo_drive.specs.declared.drive.RunEnd.{RunEnd}
use Rattle.redo_drive.specs.declared.drive.RunEnd.TheVariants.{Done, Spent}
use Rattle.redo_follow.specs.Following.{Following}
use Rattle.redo_follow.specs.{HasTally, Kept}
use Rattle.redo_memdisk.proofs.Behind.{counts-calls, keeps-behind}
use Rattle.redo_memdisk.specs.{CallsThrough, seen_through}
use Rattle.redo_memdisk.specs.declared.fused.Fused.{Fused}
use Rattle.redo_open.specs.{WhereBothTell}
use Rattle.redo_store.specs.declared.opened.Opened as store
use Rattle.model_report.specs.declared.fault.Fault.TheVariants as fault
use Rattle.redo_lab.specs.declared.playing.Course.TheVariants as course
use Rattle.redo_lab.specs.declared.playing.Played.{Played}
use Rattle.redo_lab.specs.declared.playing.Stops.{Stops}
use Rattle.redo_lab.proofs.Archives.{archived-also}
use Rattle.redo_lab.proofs.Behind.{calls-same}
use Rattle.redo_lab.proofs.Ends.{SpendsTurns, left-memory, left-spent}
use Rattle.redo_lab.proofs.Followers.{as-many, followed-all, numbered-so}
use Rattle.redo_lab.proofs.Found.{WasFound, found-armed, held-older, one-opened}
use Rattle.redo_lab.proofs.Fuses.{armed-calls}
use Rattle.redo_lab.proofs.Opened.{armed-after}
use Rattle.redo_lab.proofs.DrivenEnds.{UpTo, run-comes}
use Rattle.redo_lab.proofs.Kept.{IsKept, IsLeftArchived}
use Rattle.redo_lab.proofs.Owed.{IsOwed, IsReadAfter}
use Rattle.redo_lab.proofs.Rereading.{armed-as}
use Rattle.redo_lab.proofs.SomeLeft.{some-left}
use Rattle.redo_lab.proofs.Told.{both-told, one-told, some-told, weaker-both}
use Rattle.redo_lab.specs.Told.{IsArchiveOf, IsArchived, AreReadAsPrefix, AreFollowed, AreLeftRead, AreMarksRead, IsFollowed, IsOpenedFirst, LosesOnlyBy}
use Rattle.redo_lab.specs.Call.{LabCall, WhereOpened, WhereToldNow, mids, IsToldOf, TellsOf, call_on, Handed}
use Rattle.redo_lab.specs.Begun.{AreUntold}
use Rattle.redo_lab.specs.Laws.{Laws}
use Rattle.redo_lab.specs.Runs.{ComesTo, CommandRuns, IsLeftBy, IsToldRightly, StandsReady, course_done, course_of, ended_by, played_of, ran_of}

-- what reads give of a log device that was synced is fair
synced-fair : (disk : Disk) → IsFairLog (synced disk) disk.reads
synced-fair disk = record {
  possible = record { same_length = refl; each = λ k within. inl refl };
  each = λ k within fits. record { count = 0; some = omega arith; same = refl };
}

module _ {L D : Type 0} (log_seen : L → Seen) (log_gives : L → Call → L → Type 0) (data_seen : D → Seen) (data_gives : D → Call → D → Type 0)
    (handed : Handed) (log : L) (data_device : D) (command : Command) (drive : Drive) (stops : Stops) (script : List ScriptLine)
    (given : store.Opened (Fused L) (Fused D)) (first driven : Driven (Fused L) (Fused D)) (running : CommandRuns handed.source handed.source_now command drive script) (laws : Laws)
    (ready : StandsReady log_seen data_seen (call_on log_seen log_gives data_seen data_gives handed log data_device given.log.dev given.store.dev) drive stops script given)
    (actors : List (Actor Kept))
    (told : TellsOf drive.threads drive.own_writes log_seen log_gives data_seen data_gives drive given script (views_of actors) first)
    (after : IsReadAfter log_seen data_seen given.start first driven)
    (owes : IsOwed (seen_through log_seen) (CallsThrough log_seen log_gives) (seen_through data_seen) (CallsThrough data_seen data_gives) given script driven)
    (reads : drive.threads ≡ true → driven.closed.lost ≡ None
    → ReadsToMarks (seen_through log_seen) (seen_through data_seen) given script driven.closed)
    (followers : List (Following Kept)) (follows : Vec Followed Global)
    (new : AreNewFollowers given.start followers) (untold : AreUntold drive.followers followers)
    (followed : HaveFollowed (seen_through log_seen) (seen_through data_seen) HasTally given script followers actors
    first.closed)
    (of_followers : AllZip IsToldOf (followers_in actors) follows.items)
    (spends : SpendsTurns (call_on log_seen log_gives data_seen data_gives handed log data_device driven.closed.log.dev driven.closed.store.dev) drive)
    (error : Option DevError)
    (kept : IsKept log_seen log_gives data_seen data_gives given script handed.archive drive.archive driven error) where
  abbrev opening : LabCall
  opening = call_on log_seen log_gives data_seen data_gives handed log data_device given.log.dev given.store.dev

  abbrev call : LabCall
  call = call_on log_seen log_gives data_seen data_gives handed log data_device driven.closed.log.dev driven.closed.store.dev

  abbrev played : Played
  played = played_of given.start driven.closed follows

  abbrev run : Ran
  run = ran_of played

  abbrev log-made : MakesCalls (CallsThrough log_seen log_gives) given.log.dev driven.closed.log.dev (MayEndWith driven.closed.log.failed)
  log-made = may_end (owes.log_calls.live refl)

  abbrev data-made : MakesCalls (CallsThrough data_seen data_gives) given.store.dev driven.closed.store.dev (MayEndWith driven.closed.store.failed)
  data-made = may_end (owes.data_calls.live refl)

  log-before : call.log.now.tells ≢ None → opening.log.now.tells ≢ None
  log-before = (keeps-behind log_seen log_gives given.log.dev driven.closed.log.dev log-made.calls log-made.made).told

  data-before : call.store.now.tells ≢ None → opening.store.now.tells ≢ None
  data-before = (keeps-behind data_seen data_gives given.store.dev driven.closed.store.dev data-made.calls data-made.made).told

  log-none : given.log.dev.fuse.mid ≡ 0
  log-none = omega (arith, ready.unfailed)

  data-none : given.store.dev.fuse.mid ≡ 0
  data-none = omega (arith, ready.unfailed)

  log-mid : driven.closed.log.dev.fuse.mid ≡ failures driven.closed.log.failed
  log-mid = (armed-calls ready.armed.log_device log-none log-made).1

  data-mid : driven.closed.store.dev.fuse.mid ≡ failures driven.closed.store.failed
  data-mid = (armed-calls ready.armed.data_device data-none data-made).1

  -- WHAT IS OWED of both devices after the run, on a store that was found when the fuses were armed
  run-found : (P : Reading → Disk → Disk → Type 0)
      → ((reading : Reading) → HasReading reading given → WhereBothTell (log_seen given.log.dev.inner).tells (data_seen given.store.dev.inner).tells (λ log_disk data_disk.
      IsStart reading script log_disk data_disk
      → WhereBothTell (log_seen driven.closed.log.dev.inner).tells (data_seen driven.closed.store.dev.inner).tells (P reading)))
      → (opened : Opened) → WhereOpened call opened ((found : WasFound opening opened) × WhereToldNow call (P found.reading))
  run-found P owed opened log_entry data_entry log_is data_is log_on data_on log_fresh data_fresh opens =
      let found = found-armed opening laws ready.armed opened log_entry data_entry log_is data_is (log-before log_on) (data-before data_on) log_fresh data_fresh opens in
      let is = ready.ready found.reading found.log found.data_disk found.log_is found.data_is (log-before log_on) (data-before data_on) found.openable in
      let log_there = some-told opening.log.now.tells (log-before log_on) in
      let data_there = some-told opening.store.now.tells (data-before data_on) in
      let start : IsStart found.reading script log_there.0 data_there.0 = record {
        log_bytes = found.log.reads;
        data_bytes = found.data_disk.reads;
        orderly = found.openable.orderly;
        ready = both-told _ _ (IsReady found.reading) is.ready log_there.0 data_there.0 log_there.1 data_there.1;
        fits = subst (λ (shape : Shape). AllByRecursion (LineFits shape) script) (sym ready.is_opened.shape ∙ is.opened.shape) ready.fits.lines;
      } in
      let after = both-told opening.log.now.tells opening.store.now.tells
      (λ log_disk data_disk. IsStart found.reading script log_disk data_disk
      → WhereBothTell (log_seen driven.closed.log.dev.inner).tells (data_seen driven.closed.store.dev.inner).tells (P found.reading))
      (owed found.reading (record { shape = is.opened.shape; pages = is.opened.pages; start = is.opened.start; number = is.number }))
      log_there.0 data_there.0 log_there.1 data_there.1 start in
      (found, both-told call.log.now.tells call.store.now.tells (P found.reading) after)

  abbrev Holds : Reading → Disk → Disk → Type 0
  Holds reading log_disk data_disk = IsHeld (record {
    script = script;
    opened = opened_as reading;
    number = reading.number + numbers_taken reading.format;
    run = run;
    log_disk = log_disk;
    data_disk = data_disk;
  })

  -- EVERY IMAGE of both devices is read as a prefix of the run.
  run-reads : AreLeftRead call script (Some run)
  run-reads opened log_entry data_entry log_is data_is log_on data_on log_fresh data_fresh opens log_now data_now log_now_is data_now_is =
      let held = run-found Holds owes.holds opened log_entry data_entry log_is data_is log_on data_on log_fresh data_fresh opens in
      subst (λ (o : Opened). AreReadAsPrefix script o (Some run) log_now data_now) (sym held.0.same)
      (λ log_bytes data_bytes. laws.held_reads _ log_bytes data_bytes (held.1 log_now data_now log_now_is data_now_is))

  -- OPENING CAME TO ITS END before it.
  run-first : IsOpenedFirst call call.log.now.tells (Some run)
  run-first opened log_entry data_entry log_is data_is log_on data_on log_fresh data_fresh opens armed_from disk armed_is now_is =
      let held = run-found Holds owes.holds opened log_entry data_entry log_is data_is log_on data_on log_fresh data_fresh opens in
      let found = held.0 in
      let data_now = some-told call.store.now.tells data_on in
      let armed = (armed-as log ready.armed.log_device.stage_is log-made).told in
      let same_log : found.log ≡ armed_from = (let found_is = found.log_is in cc) in
      subst (λ (armed_from : Disk). IsOpenedBefore opened.shape armed_from disk (Some run)) same_log
      (subst (λ (one : Opened). IsOpenedBefore one.shape found.log disk (Some run)) (sym found.same)
      (laws.held_opened _ found.log (held.1 disk data_now.0 now_is data_now.1) (held-older found.reading found.log found.data_disk found.openable)))

  -- WHAT IT LEAVES
  left-so : (end : RunEnd) → driven.ended ≡ end → IsLeftBy call command drive stops script (Some run) follows.items end
  left-so end ends =
      let is = ready.is_opened in
      let same : record { shape = given.shape; pages = given.pages; end = ready.opened.end } ≡ ready.opened =
      λ i. record { shape = is.shape i; pages = is.pages i; end = ready.opened.end } in
      record {
        armed = armed-after handed log data_device ready.armed log-none data-none log-made data-made;
        counted = (let some = (counts-calls log_seen log_gives given.log.dev driven.closed.log.dev log-made.calls log-made.made).passed (omega (arith, ready.counted, log-none)) in omega arith);
        opened = ready.opened;
        ran = record {
          is_script = running.is_script;
          opens = λ log_disk data_disk log_is data_is log_on data_on. ready.opens log_disk data_disk log_is data_is (log-before log_on) (data-before data_on);
          fits = laws.no_misfit _ _ _ None script ready.fits tt;
          in_lsn_order = subst (λ (o : Opened). IsRun script o run) same (owes.is_run ready.opened.end is.start);
          driven = record {
            store = given;
            is_opened = is;
            opened_on = (calls-same log-made, calls-same data-made);
            driven = first;
            driven_on = (after.log_device, after.data_device);
            actors = actors;
            told = told;
            ends = after.ends ∙ ends;
            run_is = after.run;
            follows_are = of_followers;
            log_is = after.log_tells;
            store_is = after.store_tells;
          };
        };
        opened_first = run-first;
        reads = run-reads;
      }

  -- ALL USERS ENDED: where no call answered an error, what reads give is read
  read-now : driven.ended ≡ Done → HasMemory driven.closed → driven.closed.log.failed ≡ None → driven.closed.store.failed ≡ None
      → (opened : Opened) → WhereOpened call opened (WhereToldNow call (λ log_disk data_disk. (reading : Reading) × IsReading log_disk.reads data_disk.reads reading))
  read-now done memory log_none data_none opened log_entry data_entry log_is data_is log_on data_on log_fresh data_fresh opens log_now data_now log_now_is data_now_is =
      let left = some-left script driven.closed.history in
      let Closes : Reading → Disk → Disk → Type 0 = λ reading log_disk data_disk. IsClosed (failed_in driven.closed) (record {
        script = script;
        opened = opened_as reading;
        number = reading.number + numbers_taken reading.format;
        run = run;
        left = left.0;
        log_disk = synced log_disk;
        data_disk = synced data_disk;
      }) in
      let closed = run-found Closes (λ reading started. owes.owed_synced log_none data_none reading left.0 done memory started left.1)
      opened log_entry data_entry log_is data_is log_on data_on log_fresh data_fresh opens in
      let read = laws.held_reads _ log_now.reads data_now.reads (closed.1 log_now data_now log_now_is data_now_is).holds
      (synced-fair log_now) (laws.base_fair (run_shape closed.0.reading.shape) (synced data_now)) in
      (read.reading, read.is_read)

  -- in threads with the marks that are told
  marks-read : driven.ended ≡ Done → HasMemory driven.closed → driven.closed.lost ≡ None
      → driven.closed.log.failed ≡ None → driven.closed.store.failed ≡ None
      → AreMarksRead call drive (Some run) call.log.now.tells call.store.now.tells
  marks-read done memory lost_none log_none data_none threads unfailed alive opened log_entry data_entry log_is data_is log_on data_on
      log_fresh data_fresh opens log_now data_now log_now_is data_now_is =
      let AtMarks : Reading → Disk → Disk → Type 0 = λ was log_disk data_disk. (reading : Reading)
      → IsReading log_disk.reads data_disk.reads reading
      → (reading.end ≡ driven.closed.marks.write) × (reading.ckpt ≡ driven.closed.marks.ckpt) in
      let read = read-now done memory log_none data_none opened log_entry data_entry log_is data_is log_on data_on
      log_fresh data_fresh opens log_now data_now log_now_is data_now_is in
      let found = run-found AtMarks (reads threads lost_none log_none data_none)
      opened log_entry data_entry log_is data_is log_on data_on log_fresh data_fresh opens in
      let marks = found.1 log_now data_now log_now_is data_now_is read.0 read.1 in
      (read.0, read.1, marks.0, marks.1)

  -- the run is a legal one of the store that was opened
  legal-run : IsLegal script given.shape.space given.start driven.closed.marks driven.closed.history
  legal-run = (owes.is_run ready.opened.end ready.is_opened.start).legal

  -- its followers have followed, where the log device tells, and so where both do
  abbrev Followed-all : Type 0
  Followed-all = AllZip (HasFollowed HasTally given script first.closed) followers (followers_in actors)

  followed-run : (was : Reading) → HasReading was given
      → WhereBothTell (log_seen given.log.dev.inner).tells (data_seen given.store.dev.inner).tells (λ log_was data_was.
      IsStart was script log_was data_was
      → WhereBothTell (log_seen driven.closed.log.dev.inner).tells (data_seen driven.closed.store.dev.inner).tells
      (λ log_disk data_disk. Followed-all))
  followed-run was as_read = weaker-both (log_seen given.log.dev.inner).tells (data_seen given.store.dev.inner).tells
      (λ log_was data_was so started. one-told (log_seen driven.closed.log.dev.inner).tells
      (data_seen driven.closed.store.dev.inner).tells (λ log_disk. Followed-all)
      (still-known (log_seen first.closed.log.dev.inner).tells (log_seen driven.closed.log.dev.inner).tells _ after.log_tells (so started)))
      (followed.each was as_read)

  legal-first : IsLegal script given.shape.space given.start first.closed.marks first.closed.history
  legal-first = subst (λ (r : Ran). IsLegal script given.shape.space given.start r.marks r.entries) after.run legal-run

  -- WHAT IS TOLD OF ITS FOLLOWERS is so.
  followers-told : AreFollowed call drive script run follows.items call.log.now.tells call.store.now.tells
  followers-told = record {
    count = as-many drive.followers followers (followers_in actors) follows.items untold followed.same of_followers;
    numbered = numbered-so given.start followers (followers_in actors) follows.items new followed.same of_followers;
    each = λ opened log_entry data_entry log_is data_is log_on data_on log_fresh data_fresh opens
        log_now data_now log_now_is data_now_is.
        let found = run-found (λ was log_disk data_disk. Followed-all) followed-run
        opened log_entry data_entry log_is data_is log_on data_on log_fresh data_fresh opens in
        let same : ready.opened ≡ opened = one-opened laws log_entry data_entry ready.opened opened
        (ready.opens log_entry data_entry log_is data_is (log-before log_on) (data-before data_on)) opens in
        let space : given.shape.space ≡ opened.shape.space =
        ap (λ (shape : Shape). shape.space) ready.is_opened.shape ∙ ap (λ (o : Opened). o.shape.space) same in
        subst (λ (n : ℕ). AllByRecursion (IsFollowed script n run) follows.items) space
        (subst (λ (r : Ran). AllByRecursion (IsFollowed script given.shape.space r) follows.items) (sym after.run)
        (followed-all given script first.closed legal-first ready.is_opened.runnable.place drive.followers followers
        (followers_in actors) follows.items (found.1 log_now data_now log_now_is data_now_is) untold of_followers));
  }

  -- WHAT IS LEFT OF ITS ARCHIVE is so.
  abbrev Archived-so : Type 0
  Archived-so = IsLeftArchived log_seen log_gives data_seen data_gives given script handed.archive driven error

  archived-run : drive.archive ≡ true → (was : Reading) → HasReading was given
      → WhereBothTell (log_seen given.log.dev.inner).tells (data_seen given.store.dev.inner).tells (λ log_was data_was.
      IsStart was script log_was data_was
      → WhereBothTell (log_seen driven.closed.log.dev.inner).tells (data_seen driven.closed.store.dev.inner).tells
      (λ log_disk data_disk. Archived-so))
  archived-run archived was as_read = weaker-both (log_seen given.log.dev.inner).tells (data_seen given.store.dev.inner).tells
      (λ log_was data_was so started. one-told (log_seen driven.closed.log.dev.inner).tells
      (data_seen driven.closed.store.dev.inner).tells (λ log_disk. Archived-so) (so started))
      (kept.holds archived was as_read)

  archived-as : IsArchived (UpTo driven error) call drive script run
  archived-as archived opened log_entry data_entry log_is data_is log_on data_on log_fresh data_fresh opens disk image told fair =
      let found = run-found (λ was log_disk data_disk. Archived-so) (archived-run archived)
      opened log_entry data_entry log_is data_is log_on data_on log_fresh data_fresh opens in
      let log_now = some-told call.log.now.tells log_on in
      let data_now = some-told call.store.now.tells data_on in
      let same : ready.opened ≡ opened = one-opened laws log_entry data_entry ready.opened opened
      (ready.opens log_entry data_entry log_is data_is (log-before log_on) (data-before data_on)) opens in
      subst (λ (o : Opened). IsArchiveOf (UpTo driven error) script o run image) same
      (found.1 log_now.0 data_now.0 log_now.1 data_now.1 ready.opened ready.is_opened disk image told fair)

  -- WHAT THE RUN COMES TO.
  pub driven-comes : ComesTo call command drive stops script (course_of driven.ended played (ended_by driven.closed.log.failed driven.closed.store.failed error))
  driven-comes = run-comes call command drive stops script running laws given.start driven follows error (record {
    left = left-so;
    log_mid = log-mid;
    data_mid = data-mid;
    over = kept.over;
    risen = kept.risen;
    loses = owes.loses;
    reads = read-now;
    marks = marks-read;
    followers = followers-told;
    archived = archived-as;
    spends = spends;
  })
