-- A run that was begun, driven and closed, by whatever drive.
use Rattle.std.proofs.Common.{ℕ, ◌≡◌, ◌≤◌, true, List, Option, None, Result, Ok, Err, IfSome, IfOk, IfErr, is_some, ◌∙◌, arith, Global, Vec}
use Rattle.model_base.specs.declared.limits.TheConstants.{START_LSN}
use Rattle.model_report.specs.declared.fault.Fault.TheVariants.{Memory}
use Rattle.model_script.specs.declared.asked.Command.{Command}
use Rattle.model_script.specs.declared.asked.Drive.{Drive}
use Rattle.model_script.specs.declared.script.ScriptLine.{ScriptLine}
use Rattle.redo_archive.specs.Part.{Part}
use Rattle.redo_archiver.specs.{IsToFinish}
use Rattle.redo_disk.specs.{Call, Seen}
use Rattle.redo_drive.specs.{Owes, HaveArchived, views_of}
use Rattle.redo_drive.specs.Drive.{ReadsToMarks}
use Rattle.redo_drive.specs.Followed.{HaveFollowed}
use Rattle.redo_drive.specs.declared.actor.Actor.{Actor}
use Rattle.redo_drive.specs.declared.drive.Driven.{Driven}
use Rattle.redo_follow.specs.{HasTally, Kept}
use Rattle.redo_lsn.specs.declared.memory.NoMemory.{NoMemory}
use Rattle.redo_memdisk.specs.{CallsThrough, seen_through}
use Rattle.redo_memdisk.specs.declared.fused.Fused.{Fused}
use Rattle.redo_lab.proofs.Archives.{ArchiveReads}
use Rattle.redo_lab.proofs.Begun.{cut-well, given-memory, given-run, uncut-none}
use Rattle.redo_lab.proofs.ByDrive.{spends-turns}
use Rattle.redo_lab.proofs.Driving.{driven-comes}
use Rattle.redo_lab.proofs.Entered.{both-same, entries-then, owed-entries}
use Rattle.redo_lab.proofs.Followers.{room-for}
use Rattle.redo_lab.proofs.Kept.{finished-after, finished-owed, finished-reads, kept-run, still-some, still-started, to-finish, well-run}
use Rattle.redo_lab.proofs.Opening.{unplayed-memory}
use Rattle.redo_lab.proofs.Owed.{IsOwed, as-owed}
use Rattle.redo_lab.specs.Archiving.{failed_of, IsUnfused}
use Rattle.redo_lab.specs.Begun.{HasBegun, IsClosedBy, IsUnrun}
use Rattle.redo_lab.specs.Call.{LabCall, AreOf, TellsOf, call_on, Handed}
use Rattle.redo_lab.specs.Laws.{Laws}
use Rattle.redo_lab.specs.Runs.{AreWellCalled, CommandRuns, IsGivenBack, IsRanBy, SparedBy, StandsReady, course_of, ended_by, played_of}
use Rattle.redo_lab.specs.declared.playing.Course.TheVariants as course
use Rattle.redo_lab.specs.declared.start.Begun.{Begun}
use Rattle.redo_lab.specs.declared.playing.Played.{Played}
use Rattle.redo_lab.specs.declared.playing.Ran.{Ran}
use Rattle.redo_lab.specs.declared.playing.Stops.{Stops}

module _ {L D A : Type 0} (log_seen : L → Seen) (log_gives : L → Call → L → Type 0) (data_seen : D → Seen) (data_gives : D → Call → D → Type 0)
    (seen : A → Seen) (arch_gives : A → Call → A → Type 0) (drive : Drive) (script : List ScriptLine)
    (arch : Option A) (begun : Begun L D A)
    (has : HasBegun seen arch_gives drive script arch begun) where
  abbrev Owed-so : Driven (Fused L) (Fused D) → Type 0
  Owed-so driven = IsOwed (seen_through log_seen) (CallsThrough log_seen log_gives) (seen_through data_seen) (CallsThrough data_seen data_gives)
      begun.opened script driven

  abbrev Ready-on : (Fused L → Fused D → LabCall) → Stops → Type 0
  Ready-on call stops = (now : Option A) → IsUnfused seen arch now (call begun.opened.log.dev begun.opened.store.dev).archive
      → StandsReady log_seen data_seen (call begun.opened.log.dev begun.opened.store.dev) drive stops script begun.opened

  -- A RUN THAT WAS DRIVEN
  module _ (first : Driven (Fused L) (Fused D)) (actors : List (Actor Kept)) (after : Option (Part A))
      (owes : Owes (seen_through log_seen) (CallsThrough log_seen log_gives) (seen_through data_seen) (CallsThrough data_seen data_gives)
      begun.opened script first)
      (archived : HaveArchived (seen_through log_seen) (seen_through data_seen) seen arch_gives begun.opened script
      first.closed (views_of actors) begun.archive after) where
    -- its archive may have the rest appended
    pub may-finish : IfSome after (IsToFinish seen first.closed.marks.flushed)
    may-finish = to-finish (seen_through log_seen) (seen_through data_seen) seen arch_gives begun.opened script first
        (views_of actors) begun.archive after archived

    pub was-started : IfSome after (λ part. START_LSN ≤ part.start)
    was-started = still-started (seen_through log_seen) (seen_through data_seen) seen arch_gives begun.opened script
        first (views_of actors) arch begun.archive after
        (let low = has.may.runnable.first in omega arith) has.archive archived

    module _ (reads : ArchiveReads) (ran : Ran L D) (left : Option A)
        (closed : IsClosedBy log_seen log_gives seen arch_gives begun.opened.start begun.follows first actors after ran
        left) where
      owed : Owed-so closed.after
      owed = finished-owed log_seen log_gives data_seen data_gives begun.opened script seen arch_gives reads
          drive.log_only has.may first
          (as-owed (seen_through log_seen) (CallsThrough log_seen log_gives) (seen_through data_seen) (CallsThrough data_seen data_gives)
          begun.opened script first owes)
          after closed.archive_now closed.after closed.finished

      pub run-entered : (log : L) (store : D) → AreOf log store begun.opened.log.dev begun.opened.store.dev → AreOf log store ran.log ran.store
      run-entered log store entered = rw (closed.log, closed.store) (entries-then entered (owed-entries owed))

      pub run-given : IsGivenBack seen (SparedBy ran.course) arch left
      run-given = rw (closed.course, closed.device_is) (given-run seen _ _ _ arch _
          (still-some (seen_through log_seen) (CallsThrough log_seen log_gives) (seen_through data_seen) seen arch_gives
          begun.opened script
          first closed.after (views_of actors) arch begun.archive after closed.archive_now has.archive archived closed.finished))

      abbrev its-played : Played
      its-played = played_of begun.opened.start closed.after.closed closed.follows

      pub run-well : AreWellCalled arch_gives ran.course arch left
      run-well = rw (closed.course, closed.device_is) (well-run log_seen log_gives data_seen data_gives begun.opened
          script seen arch_gives reads drive.log_only has.may first
          (as-owed (seen_through log_seen) (CallsThrough log_seen log_gives) (seen_through data_seen)
          (CallsThrough data_seen data_gives)
          begun.opened script first owes) (views_of actors) arch begun.archive after closed.archive_now
          closed.after has.archive archived closed.finished
          (course_of closed.after.ended its-played (ended_by closed.after.closed.log.failed closed.after.closed.store.failed
          (failed_of closed.archive_now)))
          (uncut-none closed.after.ended its-played closed.after.closed.log.failed closed.after.closed.store.failed
          (failed_of closed.archive_now)))

      -- WHAT IT COMES TO
      module _ (handed : Handed) (log : L) (store : D) (command : Command) (stops : Stops)
          (running : CommandRuns handed.source handed.source_now command drive script) (laws : Laws) (archives : is_some arch ≡ drive.archive) where
        abbrev call : Fused L → Fused D → LabCall
        call = call_on log_seen log_gives data_seen data_gives handed log store

        pub run-comes : Ready-on call stops
            → TellsOf drive.threads drive.own_writes log_seen log_gives data_seen data_gives drive begun.opened script (views_of actors) first
            → (drive.threads ≡ true → first.closed.lost ≡ None
            → ReadsToMarks (seen_through log_seen) (seen_through data_seen) begun.opened script first.closed)
            → HaveFollowed (seen_through log_seen) (seen_through data_seen) HasTally begun.opened script begun.followers.items actors first.closed
            → IsUnfused seen arch left handed.archive
            → IsRanBy call command drive stops script ran
        run-comes ready told read followed same =
            let was = as-owed (seen_through log_seen) (CallsThrough log_seen log_gives) (seen_through data_seen) (CallsThrough data_seen data_gives)
            begun.opened script first owes in
            let same_now = rw closed.device_is at same in
            rw (closed.course, closed.log, closed.store)
            (driven-comes log_seen log_gives data_seen data_gives handed log store command drive stops script
            begun.opened first closed.after running laws (ready left same) actors told
            (finished-after log_seen log_gives data_seen data_gives begun.opened script seen arch_gives reads
            drive.log_only has.may first was after closed.archive_now closed.after closed.finished)
            owed
            (λ threads. finished-reads log_seen log_gives data_seen data_gives begun.opened script seen arch_gives reads
            drive.log_only has.may first was after closed.archive_now closed.after closed.finished (read threads))
            begun.followers.items closed.follows has.new has.untold followed
            (closed.told has.room.0 (room-for drive.followers _ begun.followers.items actors has.untold followed.same has.room.1))
            (spends-turns log_seen log_gives data_seen data_gives _ _ drive)
            _
            (kept-run log_seen log_gives data_seen data_gives begun.opened script seen arch_gives reads drive.log_only
            has.may first was (views_of actors) arch begun.archive after closed.archive_now closed.after
            has.archive archived closed.finished handed.archive same_now drive.archive archives))

  -- A RUN WITHOUT MEMORY FOR ITS DRIVE
  module _ (log_old : Fused L) (store_old : Fused D) (archive_old : Option (Part A)) (ran : Ran L D) (left : Option A)
      (log_same : log_old ≡ begun.opened.log.dev) (store_same : store_old ≡ begun.opened.store.dev) (archive_same : archive_old ≡ begun.archive)
      (unrun : IsUnrun log_old store_old archive_old ran left) where
    pub unrun-entered : (log : L) (store : D) → AreOf log store begun.opened.log.dev begun.opened.store.dev → AreOf log store ran.log ran.store
    unrun-entered log store entered = entries-then entered (both-same (unrun.log_is ∙ log_same) (unrun.store_is ∙ store_same))

    pub unrun-given : IsGivenBack seen (SparedBy ran.course) arch left
    unrun-given = rw (unrun.course, unrun.device_is, archive_same)
        (given-memory seen arch_gives begun.opened arch begun.archive has.archive)

    pub unrun-well : AreWellCalled arch_gives ran.course arch left
    unrun-well = rw unrun.course (cut-well arch_gives (course.Ended Memory) (λ uncut. uncut) arch left)

    module _ (handed : Handed) (log : L) (store : D) (command : Command) (stops : Stops)
        (running : CommandRuns handed.source handed.source_now command drive script) (laws : Laws) where
      abbrev call-un : Fused L → Fused D → LabCall
      call-un = call_on log_seen log_gives data_seen data_gives handed log store

      pub unrun-comes : Ready-on call-un stops → IsUnfused seen arch left handed.archive → IsRanBy call-un command drive stops script ran
      unrun-comes ready same =
          let stands = ready left same in
          rw (unrun.course, unrun.log_is, unrun.store_is, log_same, store_same)
          (unplayed-memory _ command drive stops script running laws stands.armed stands.reads)

  -- WHAT A DRIVE LEAVES, or where there was no memory
  abbrev pub After : Type 0
  After = Result (Driven (Fused L) (Fused D) × Vec (Actor Kept) Global × Option (Part A))
      (NoMemory × Fused L × Fused D × Option (Part A))

  abbrev Owed-after : After → Type 0
  Owed-after after = IfOk after (λ left. Owes (seen_through log_seen) (CallsThrough log_seen log_gives) (seen_through data_seen)
      (CallsThrough data_seen data_gives) begun.opened script left.0)

  abbrev Archived-after : After → Type 0
  Archived-after after = IfOk after (λ left. HaveArchived (seen_through log_seen) (seen_through data_seen) seen
      arch_gives begun.opened script left.0.closed (views_of left.1.items) begun.archive left.2)

  abbrev Same-after : After → Type 0
  Same-after after = IfErr after (λ error. (error.1 ≡ begun.opened.log.dev) × (error.2 ≡ begun.opened.store.dev) × (error.3 ≡ begun.archive))

  abbrev Closed-after : After → Ran L D → Option A → Type 0
  Closed-after after ran now = IfOk after (λ left. IsClosedBy log_seen log_gives seen arch_gives begun.opened.start
      begun.follows left.0 left.1.items left.2 ran now)

  abbrev Unrun-after : After → Ran L D → Option A → Type 0
  Unrun-after after ran now = IfErr after (λ error. IsUnrun error.1 error.2 error.3 ran now)

  pub after-finish : (after : After) → Owed-after after → Archived-after after
      → IfOk after (λ left. IfSome left.2 (IsToFinish seen left.0.closed.marks.flushed))
  after-finish (Ok left) owes archived = may-finish left.0 left.1.items left.2 owes archived
  after-finish (Err error) owes archived = tt

  pub after-started : (after : After) → Owed-after after → Archived-after after
      → IfOk after (λ left. IfSome left.2 (λ part. START_LSN ≤ part.start))
  after-started (Ok left) owes archived = was-started left.0 left.1.items left.2 owes archived
  after-started (Err error) owes archived = tt

  module _ (reads : ArchiveReads) (ran : Ran L D) (now : Option A) where
    pub after-entered : (after : After) → Owed-after after → Archived-after after → Same-after after → Closed-after after ran now
        → Unrun-after after ran now → (log : L) (store : D) → AreOf log store begun.opened.log.dev begun.opened.store.dev
        → AreOf log store ran.log ran.store
    after-entered (Ok left) owes archived same closed unrun =
        run-entered left.0 left.1.items left.2 owes archived reads ran now closed
    after-entered (Err error) owes archived same closed unrun =
        unrun-entered error.1 error.2 error.3 ran now same.0 same.1 same.2 unrun

    pub after-given : (after : After) → Owed-after after → Archived-after after → Same-after after → Closed-after after ran now
        → Unrun-after after ran now → IsGivenBack seen (SparedBy ran.course) arch now
    after-given (Ok left) owes archived same closed unrun =
        run-given left.0 left.1.items left.2 owes archived reads ran now closed
    after-given (Err error) owes archived same closed unrun =
        unrun-given error.1 error.2 error.3 ran now same.0 same.1 same.2 unrun

    pub after-well : (after : After) → Owed-after after → Archived-after after → Same-after after
        → Closed-after after ran now → Unrun-after after ran now → AreWellCalled arch_gives ran.course arch now
    after-well (Ok left) owes archived same closed unrun =
        run-well left.0 left.1.items left.2 owes archived reads ran now closed
    after-well (Err error) owes archived same closed unrun =
        unrun-well error.1 error.2 error.3 ran now same.0 same.1 same.2 unrun

    module _ (handed : Handed) (log : L) (store : D) (command : Command) (stops : Stops)
        (running : CommandRuns handed.source handed.source_now command drive script) (laws : Laws) (archives : is_some arch ≡ drive.archive) where
      abbrev call-of : Fused L → Fused D → LabCall
      call-of = call_on log_seen log_gives data_seen data_gives handed log store

      pub after-comes : (after : After) → Owed-after after → Archived-after after → Same-after after → Closed-after after ran now
          → Unrun-after after ran now → Ready-on call-of stops
          → IfOk after (λ left. TellsOf drive.threads drive.own_writes log_seen log_gives data_seen data_gives drive begun.opened script
          (views_of left.1.items) left.0)
          → (drive.threads ≡ true → IfOk after (λ left. left.0.closed.lost ≡ None
          → ReadsToMarks (seen_through log_seen) (seen_through data_seen) begun.opened script left.0.closed))
          → IfOk after (λ left. HaveFollowed (seen_through log_seen) (seen_through data_seen) HasTally begun.opened script begun.followers.items
          left.1.items left.0.closed)
          → IsUnfused seen arch now handed.archive → IsRanBy call-of command drive stops script ran
      after-comes (Ok left) owes archived same closed unrun ready told read followed unfused =
          run-comes left.0 left.1.items left.2 owes archived reads ran now closed handed log store command stops
          running laws archives ready told read followed unfused
      after-comes (Err error) owes archived same closed unrun ready told read followed unfused =
          unrun-comes error.1 error.2 error.3 ran now same.0 same.1 same.2 unrun handed log store command stops
          running laws ready unfused
