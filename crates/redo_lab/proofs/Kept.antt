-- What a run leaves of the archive's device, by what its drive leaves and what is appended to that.
use Rattle.std.proofs.Common.{ℕ, ◌≡◌, ◌≤◌, Bool, true, false, List, Option, Some, None, IfSome, is_some, refl, sym, ap, subst, ◌∙◌, arith}
use Rattle.std.proofs.lemmas.Bool.{false≢true}
use Rattle.std.specs.List.{AllByRecursion}
use Rattle.model_archive.specs.{IsFairArchive}
use Rattle.model_base.specs.{HasRisen}
use Rattle.model_base.specs.declared.limits.TheConstants.{START_LSN}
use Rattle.model_base.specs.declared.shape.Shape.{Shape}
use Rattle.model_core.specs.States as model
use Rattle.model_device.specs.{Disk}
use Rattle.model_log.specs.{block_of, groups_of}
use Rattle.model_page.specs.declared.content.Content.{Content}
use Rattle.model_report.proofs.Groups.{have-lines}
use Rattle.model_report.specs.{IsLegal, wholes_of}
use Rattle.model_script.specs.declared.script.ScriptLine.{ScriptLine}
use Rattle.model_store.specs.{IsStorable}
use Rattle.model_theorem.proofs.Fitting.{good-from}
use Rattle.model_theorem.specs.{Opened, Ran}
use Rattle.redo_archive.specs.{IsBegun, PartArchives}
use Rattle.redo_archive.specs.Part.{Part}
use Rattle.redo_archiver.specs.{IsToFinish}
use Rattle.redo_disk.proofs.Made.{ends_then, serves_end}
use Rattle.redo_disk.proofs.Told.{known-as, still-known}
use Rattle.redo_disk.specs.{Call, EndWith, MakesCalls, Seen}
use Rattle.redo_disk.specs.declared.error.DevError.{DevError}
use Rattle.redo_disk.specs.declared.error.DevError.TheVariants.{Failed}
use Rattle.redo_drive.proofs.ArchiveGroups.{risen_since}
use Rattle.redo_drive.specs.{ArchivesRun, HasArchived, HaveArchived, HoldsFrom, MayBegin}
use Rattle.redo_drive.specs.Drive.{ReadsToMarks, WhereStarted, closed_run}
use Rattle.redo_drive.specs.declared.drive.Driven.{Driven}
use Rattle.redo_drive.specs.declared.drive.RunEnd.TheVariants.{Done}
use Rattle.redo_finish.specs.{Finishes}
use Rattle.redo_logdev.specs.Part as log
use Rattle.redo_memdisk.specs.{CallsThrough, seen_through}
use Rattle.redo_memdisk.specs.declared.fused.Fused.{Fused}
use Rattle.redo_store.specs.declared.opened.Opened as store
use Rattle.redo_lab.proofs.Archives.{ArchiveReads, archived-as, block-rises}
use Rattle.redo_lab.proofs.DrivenEnds.{UpTo}
use Rattle.redo_lab.proofs.Opening.{at-start}
use Rattle.redo_lab.proofs.Owed.{IsOwed, IsReadAfter, owed-back, read-none, read-some, reads-back}
use Rattle.redo_lab.specs.Told.{IsArchiveOf}
use Rattle.redo_lab.specs.Archiving.{ArchivesRan, AreBegun, HaveFinished, device_of, failed_of, read_back, IsUnfused}
use Rattle.redo_lab.specs.Call.{IsWellCalled, Unfused, unfused, IsOpenedAt}
use Rattle.redo_lab.specs.Runs.{AreWellCalled, IsUncut}
use Rattle.redo_lab.specs.declared.playing.Course.{Course}

-- what follows where it is told, by what is so then
on-told : (o : Option Disk) {P Q R : Type 0} → IfSome o (λ disk. P) → (P → IfSome o (λ disk. Q)) → (P → Q → R) → IfSome o (λ disk. R)
on-told None so then both = tt
on-told (Some disk) so then both = both so (then so)

module _ {L D : Type 0} (log_seen : L → Seen) (log_gives : L → Call → L → Type 0) (data_seen : D → Seen) (data_gives : D → Call → D → Type 0)
    (given : store.Opened (Fused L) (Fused D)) (script : List ScriptLine) where
  -- each fair image of the archive's device is so
  abbrev pub IsLeftArchived : Unfused → Driven (Fused L) (Fused D) → Option DevError → Type 0
  IsLeftArchived archive driven error = (opened : Opened) → IsOpenedAt opened given → (disk : Disk) (image : List ℕ)
      → archive.now.tells ≡ Some disk → IsFairArchive disk image
      → IsArchiveOf (UpTo driven error) script opened (closed_run given.start driven.closed) image

  -- WHAT A RUN LEAVES of the archive's device, of which a call answered this that failed, if one did: none but a failed append lost
  -- anything of the run.
  pub record IsKept (archive : Unfused) (archived : Bool) (driven : Driven (Fused L) (Fused D)) (error : Option DevError) : Type 0 where
    pub over : (driven.closed.lost ≡ None → ⊥) → error ≡ driven.closed.lost
    pub risen : error ≡ Some Failed → (archived ≡ true) × HasRisen archive.entry.faults archive.now.faults
    pub holds : archived ≡ true → WhereStarted (seen_through log_seen) (seen_through data_seen) given script (λ was.
        IfSome (log_seen driven.closed.log.dev.inner).tells (λ log_now. IsLeftArchived archive driven error))

  -- of a run that isn't archived
  pub kept-none : (archive : Unfused) (archived : Bool) (driven : Driven (Fused L) (Fused D)) → archived ≡ false → driven.closed.lost ≡ None
      → IsKept archive archived driven None
  kept-none archive archived driven not none = record {
    over = λ lost. absurd (lost none);
    risen = λ is. absurd (cc);
    holds = λ is. absurd (false≢true (sym not ∙ is));
  }

  abbrev Owed : Driven (Fused L) (Fused D) → Type 0
  Owed driven = IsOwed (seen_through log_seen) (CallsThrough log_seen log_gives) (seen_through data_seen) (CallsThrough data_seen data_gives)
      given script driven

  -- each group of the run fits the store
  groups-fit : (log_only : Bool) (driven : Driven (Fused L) (Fused D)) → MayBegin given script log_only → Owed driven
      → AllByRecursion (IsStorable given.shape) (groups_of (wholes_of script given.shape.space driven.closed.history))
  groups-fit log_only driven may owed =
      let legal : IsLegal script given.shape.space given.start driven.closed.marks driven.closed.history =
      (owed.is_run given.start (at-start given.start may.runnable.place)).legal in
      good-from given.shape script driven.closed.history may.fits.lines
      (have-lines script given.shape.space given.start driven.closed.marks driven.closed.history legal)

  module _ {A : Type 0} (seen : A → Seen) (arch_gives : A → Call → A → Type 0) (reads : ArchiveReads) (log_only : Bool)
      (may : MayBegin given script log_only) (first : Driven (Fused L) (Fused D)) (owed : Owed first) where
    module _ (actors : List model.Actor) (device : A) (begun after new : Part A) (part : log.Part (Fused L))
        (is_begun : IsBegun seen arch_gives given.shape given.start given.pages device begun)
        (has : HasArchived (seen_through log_seen) (seen_through data_seen) seen arch_gives given script first.closed
        actors begun after)
        (finishes : Finishes (seen_through log_seen) (CallsThrough log_seen log_gives) seen arch_gives
        first.closed.marks.flushed first.closed.log part after new)
        (done : first.ended ≡ Done → part.failed ≡ None → new.failed ≡ None → new.marks.mark ≡ first.closed.marks.flushed) where
      abbrev read : Driven (Fused L) (Fused D)
      read = read_back first part

      abbrev run : Ran
      run = closed_run given.start first.closed

      before : (seen device).faults ≤ (seen after.dev).faults
      before = (let low = is_begun.later in let high = has.same.later in omega arith)

      same-shape : (was : Option DevError) → after.failed ≡ was → new.shape ≡ after.shape
      same-shape None is = (finishes.same is).shape
      same-shape (Some e) is = ap (λ (p : Part A). p.shape) (finishes.over (λ none. let z = sym none ∙ is in cc))

      risen-so : (was : Option DevError) → after.failed ≡ was → new.failed ≡ Some Failed
          → HasRisen (seen device).faults (seen new.dev).faults
      risen-so None is failed =
          let same = finishes.same is in
          risen_since (seen device).faults (seen after.dev).faults (seen new.dev).faults before same.later (same.risen failed)
      risen-so (Some e) is failed =
          let still = finishes.over (λ none. let z = sym none ∙ is in cc) in
          let was : after.failed ≡ Some Failed = ap (λ (p : Part A). p.failed) (sym still) ∙ failed in
          subst (λ (p : Part A). HasRisen (seen device).faults (seen p.dev).faults) (sym still)
          (risen_since (seen device).faults (seen begun.dev).faults (seen after.dev).faults is_begun.later has.same.later
          (has.same.risen was))

      starts : new.start ≡ given.start
      starts = finishes.start ∙ has.same.start ∙ is_begun.start_is

      -- WHAT IT ARCHIVES, where the log device tells
      archives-ran : (opened : Opened) → IsOpenedAt opened given
          → ArchivesRun (seen_through log_seen) seen given script first.closed after
          → PartArchives seen given.pages (wholes_of script given.shape.space first.closed.history) new
          → ArchivesRan seen script opened run new
      archives-ran opened is ran archives = record {
        shape = same-shape after.failed refl ∙ has.same.shape ∙ is_begun.shape_is ∙ is.shape;
        start = starts;
        archives = subst (λ (shape : Shape). PartArchives seen opened.pages (wholes_of script shape.space first.closed.history) new) is.shape
            (subst (λ (pages : List Content). PartArchives seen pages (wholes_of script given.shape.space first.closed.history) new) is.pages
            archives);
        good = subst (λ (shape : Shape). AllByRecursion (IsStorable shape) (groups_of (wholes_of script shape.space first.closed.history)))
            is.shape (groups-fit log_only first may owed);
        later = (finishes.asked has.asked).later;
        flushed = (finishes.asked has.asked).most;
        checkpoint = (let made = ran.made in let up = block-rises after.marks.mark new.marks.mark finishes.up in omega arith);
      }

      left-archived : ArchivesRun (seen_through log_seen) seen given script first.closed after
          → PartArchives seen given.pages (wholes_of script given.shape.space first.closed.history) new
          → IsLeftArchived (unfused seen device new.dev) read new.failed
      left-archived ran archives = λ opened is disk image told fair.
          let are = archives-ran opened is ran archives in
          archived-as seen reads script opened run new disk image told fair (UpTo read new.failed) are
          (λ mark from up_to. (
            omega (arith, up_to, are.flushed),
            λ ended log_none none. (let all = done ended log_none none in omega (arith, all, from, up_to, are.flushed)),
          ))

      finished-archives : ArchivesRun (seen_through log_seen) seen given script first.closed after
          → IfSome (log_seen part.dev.inner).tells (λ disk. PartArchives seen given.pages (wholes_of script given.shape.space first.closed.history) new)
      finished-archives ran = finishes.archives given.pages (wholes_of script given.shape.space first.closed.history)
          (subst (λ s. HoldsSo s) (sym (has.same.start ∙ is_begun.start_is)) ran.rest) ran.archives
        where
          HoldsSo : ℕ → Type 0
          HoldsSo s = HoldsFrom (seen_through log_seen) s (wholes_of script given.shape.space first.closed.history)
              (block_of after.marks.mark) first.closed.marks.flushed first.closed.log

      kept-some : IsKept (unfused seen device new.dev) true read new.failed
      kept-some = record {
        over = λ lost. ap (λ (p : Part A). p.failed) (finishes.over (λ none. lost (sym has.failed ∙ none))) ∙ has.failed;
        risen = λ failed. (refl, risen-so after.failed refl failed);
        holds = λ is reading as_read. known-as (log_seen given.log.dev.inner).tells _ _ (λ log_disk. known-as (data_seen given.store.dev.inner).tells _ _
            (λ data_disk so started. on-told (log_seen part.dev.inner).tells
            (still-known (log_seen first.closed.log.dev.inner).tells (log_seen part.dev.inner).tells _ finishes.log.told (so started))
            finished-archives left-archived))
            (has.run is_begun.holds reading as_read);
      }

      -- where no call of it answered an error in the end, none did before
      well-some : new.failed ≡ None → IsWellCalled arch_gives device new.dev
      well-some none = by after.failed refl
        where
          by : (was : Option DevError) → after.failed ≡ was → IsWellCalled arch_gives device new.dev
          by None is =
              let driven : IsWellCalled arch_gives begun.dev after.dev =
              subst (λ (e : Option DevError). MakesCalls arch_gives begun.dev after.dev (EndWith e)) is
              (has.same.calls.live is_begun.live) in
              let rest : IsWellCalled arch_gives after.dev new.dev =
              subst (λ (e : Option DevError). MakesCalls arch_gives after.dev new.dev (EndWith e)) none
              ((finishes.same is).calls.live is) in
              ends_then (serves_end is_begun.calls) (ends_then driven rest)
          by (Some e) is =
              let still = finishes.over (λ none. let z = sym none ∙ is in cc) in
              let bad : Some e ≡ None = sym is ∙ ap (λ (p : Part A). p.failed) (sym still) ∙ none in
              absurd (cc)

    -- OF EACH RUN
    pub kept-run : (actors : List model.Actor) (device : Option A) (begun after new : Option (Part A)) (driven : Driven (Fused L) (Fused D))
        → AreBegun seen arch_gives given device begun
        → HaveArchived (seen_through log_seen) (seen_through data_seen) seen arch_gives given script first.closed actors
        begun after
        → HaveFinished (seen_through log_seen) (CallsThrough log_seen log_gives) seen arch_gives first driven after new
        → (archive : Unfused) → IsUnfused seen device (device_of new) archive → (archived : Bool) → is_some device ≡ archived
        → IsKept archive archived driven (failed_of new)
    kept-run actors None None None None driven are has finished archive same archived is =
        kept-none archive archived driven (sym is) (ap (λ (d : Driven (Fused L) (Fused D)). d.closed.lost) finished ∙ has)
    kept-run actors (Some device) (Some begun) (Some after) (Some new) driven are has finished archive same archived is =
        subst (λ (b : Bool). IsKept archive b driven new.failed) is
        (subst (λ (a : Unfused). IsKept a true driven new.failed) (sym same)
        (subst (λ (d : Driven (Fused L) (Fused D)). IsKept (unfused seen device new.dev) true d new.failed) (sym finished.read)
        (kept-some actors device begun after new driven.closed.log are has finished.finishes finished.done)))
    kept-run actors None None None (Some new) driven are has finished archive same archived is = absurd finished
    kept-run actors None None (Some after) new driven are has finished archive same archived is = absurd has
    kept-run actors None (Some begun) after new driven are has finished archive same archived is = absurd are
    kept-run actors (Some device) None after new driven are has finished archive same archived is = absurd are
    kept-run actors (Some device) (Some begun) None new driven are has finished archive same archived is = absurd has
    kept-run actors (Some device) (Some begun) (Some after) None driven are has finished archive same archived is = absurd finished

    pub well-run : (actors : List model.Actor) (device : Option A) (begun after new : Option (Part A))
        (driven : Driven (Fused L) (Fused D))
        → AreBegun seen arch_gives given device begun
        → HaveArchived (seen_through log_seen) (seen_through data_seen) seen arch_gives given script first.closed actors
        begun after
        → HaveFinished (seen_through log_seen) (CallsThrough log_seen log_gives) seen arch_gives first driven after new
        → (course : Course) → (IsUncut course → failed_of new ≡ None) → AreWellCalled arch_gives course device
        (device_of new)
    well-run actors None None None None driven are has finished course none = tt
    well-run actors (Some device) (Some begun) (Some after) (Some new) driven are has finished course none = λ uncut.
        well-some actors device begun after new driven.closed.log are has finished.finishes finished.done (none uncut)
    well-run actors None None None (Some new) driven are has finished course none = absurd finished
    well-run actors None None (Some after) new driven are has finished course none = absurd has
    well-run actors None (Some begun) after new driven are has finished course none = absurd are
    well-run actors (Some device) None after new driven are has finished course none = absurd are
    well-run actors (Some device) (Some begun) None new driven are has finished course none = absurd has
    well-run actors (Some device) (Some begun) (Some after) None driven are has finished course none = absurd finished

    -- the run and what is owed of it
    pub finished-after : (old new : Option (Part A)) (driven : Driven (Fused L) (Fused D))
        → HaveFinished (seen_through log_seen) (CallsThrough log_seen log_gives) seen arch_gives first driven old new
        → IsReadAfter log_seen data_seen given.start first driven
    finished-after None None driven finished =
        subst (λ (d : Driven (Fused L) (Fused D)). IsReadAfter log_seen data_seen given.start first d) (sym finished)
        (read-none log_seen data_seen given.start first)
    finished-after (Some old) (Some new) driven finished =
        subst (λ (d : Driven (Fused L) (Fused D)). IsReadAfter log_seen data_seen given.start first d) (sym finished.read)
        (read-some log_seen log_gives data_seen given.start first driven.closed.log finished.finishes.log)
    finished-after None (Some new) driven finished = absurd finished
    finished-after (Some old) None driven finished = absurd finished

    pub finished-owed : (old new : Option (Part A)) (driven : Driven (Fused L) (Fused D))
        → HaveFinished (seen_through log_seen) (CallsThrough log_seen log_gives) seen arch_gives first driven old new
        → Owed driven
    finished-owed None None driven finished = subst (λ (d : Driven (Fused L) (Fused D)). Owed d) (sym finished) owed
    finished-owed (Some old) (Some new) driven finished = subst (λ (d : Driven (Fused L) (Fused D)). Owed d) (sym finished.read)
        (owed-back (seen_through log_seen) (CallsThrough log_seen log_gives) (seen_through data_seen) (CallsThrough data_seen data_gives)
        given script first driven.closed.log finished.finishes.log owed)
    finished-owed None (Some new) driven finished = absurd finished
    finished-owed (Some old) None driven finished = absurd finished

    -- and what reads give, where no append was lost
    abbrev ReadsSo : Driven (Fused L) (Fused D) → Type 0
    ReadsSo driven = driven.closed.lost ≡ None → ReadsToMarks (seen_through log_seen) (seen_through data_seen) given script driven.closed

    pub finished-reads : (old new : Option (Part A)) (driven : Driven (Fused L) (Fused D))
        → HaveFinished (seen_through log_seen) (CallsThrough log_seen log_gives) seen arch_gives first driven old new
        → ReadsSo first → ReadsSo driven
    finished-reads None None driven finished reads = subst ReadsSo (sym finished) reads
    finished-reads (Some old) (Some new) driven finished reads = subst ReadsSo (sym finished.read)
        (λ none. reads-back (seen_through log_seen) (CallsThrough log_seen log_gives) (seen_through data_seen) (CallsThrough data_seen data_gives)
        given script first driven.closed.log finished.finishes.log owed (reads none))
    finished-reads None (Some new) driven finished reads = absurd finished
    finished-reads (Some old) None driven finished reads = absurd finished

module _ {L D A : Type 0} (log_seen : L → Seen) (data_seen : D → Seen) (seen : A → Seen)
    (arch_gives : A → Call → A → Type 0) (given : store.Opened L D) (script : List ScriptLine) (first : Driven L D)
    (actors : List model.Actor) where
  -- WHAT MAY BE APPENDED after a run
  pub to-finish : (begun after : Option (Part A))
      → HaveArchived log_seen data_seen seen arch_gives given script first.closed actors begun after
      → IfSome after (IsToFinish seen first.closed.marks.flushed)
  to-finish begun None has = tt
  to-finish None (Some after) has = absurd has
  to-finish (Some begun) (Some after) has = has.to_finish

  pub still-started : (device : Option A) (begun after : Option (Part A)) → START_LSN ≤ given.start
      → AreBegun seen arch_gives given device begun
      → HaveArchived log_seen data_seen seen arch_gives given script first.closed actors begun after
      → IfSome after (λ part. START_LSN ≤ part.start)
  still-started device begun None low are has = tt
  still-started device None (Some after) low are has = absurd has
  still-started None (Some begun) (Some after) low are has = absurd are
  still-started (Some device) (Some begun) (Some after) low are has =
      let same : after.start ≡ given.start = has.same.start ∙ are.start_is in omega arith

-- a device is given back where one was handed on
module _ {L D A : Type 0} (log_seen : L → Seen) (gives : L → Call → L → Type 0) (data_seen : D → Seen) (seen : A → Seen)
    (arch_gives : A → Call → A → Type 0) (given : store.Opened L D) (script : List ScriptLine)
    (first driven : Driven L D) (actors : List model.Actor) where
  pub still-some : (device : Option A) (begun after new : Option (Part A)) → AreBegun seen arch_gives given device begun
      → HaveArchived log_seen data_seen seen arch_gives given script first.closed actors begun after
      → HaveFinished log_seen gives seen arch_gives first driven after new → is_some (device_of new) ≡ is_some device
  still-some None None None None are has finished = refl
  still-some (Some device) (Some begun) (Some after) (Some new) are has finished = refl
  still-some None None None (Some new) are has finished = absurd finished
  still-some None None (Some after) new are has finished = absurd has
  still-some None (Some begun) after new are has finished = absurd are
  still-some (Some device) None after new are has finished = absurd are
  still-some (Some device) (Some begun) None new are has finished = absurd has
  still-some (Some device) (Some begun) (Some after) None are has finished = absurd finished
