-- What a run comes to that was driven, by what a call of each device answered that failed.
use Rattle.std.proofs.Common.{Global, Vec, ℕ, ◌≡◌, ◌≤◌, ◌<◌, ◌+◌, List, Option, Some, None, refl, sym, ap, subst, ◌∙◌, inl, inr, ⊎_elim, arith}
use Rattle.model_report.specs.{IsLeft}
use Rattle.model_report.specs.declared.entry.Followed.{Followed}
use Rattle.model_report.specs.declared.fault.Fault.{Fault}
use Rattle.model_report.specs.declared.fault.Fault.TheVariants as fault
use Rattle.model_script.specs.declared.asked.Command.{Command}
use Rattle.model_script.specs.declared.asked.Drive.{Drive}
use Rattle.model_script.specs.declared.script.ScriptLine.{ScriptLine}
use Rattle.model_store.specs.{IsReading, Reading}
use Rattle.model_theorem.specs.{LosesOnlyByFailure, Opened, Ran}
use Rattle.redo_disk.specs.{failures}
use Rattle.redo_disk.specs.declared.error.DevError.{DevError}
use Rattle.redo_disk.specs.declared.error.DevError.TheVariants as device
use Rattle.redo_drive.specs.{HasMemory}
use Rattle.redo_drive.specs.Drive.{failed_in}
use Rattle.redo_drive.specs.declared.drive.Driven.{Driven}
use Rattle.redo_drive.specs.declared.drive.RunEnd.{RunEnd}
use Rattle.redo_drive.specs.declared.drive.RunEnd.TheVariants.{Done, Spent}
use Rattle.redo_memdisk.specs.declared.fused.Fused.{Fused}
use Rattle.redo_lab.proofs.Archives.{archived-also}
use Rattle.redo_lab.proofs.Ends.{SpendsTurns, left-memory, left-spent}
use Rattle.redo_lab.specs.Told.{IsArchived, AreFollowed, AreMarksRead, HasArchiveFailed, LosesOnlyBy}
use Rattle.redo_lab.specs.Call.{LabCall, WhereOpened, WhereToldNow, mids}
use Rattle.redo_lab.specs.Laws.{Laws}
use Rattle.redo_lab.specs.Runs.{ComesTo, CommandRuns, IsLeftBy, IsToldRightly, course_done, course_of, ended_by, played_of, ran_of}
use Rattle.redo_lab.specs.declared.playing.Course.TheVariants as course
use Rattle.redo_lab.specs.declared.playing.Played.{Played}
use Rattle.redo_lab.specs.declared.playing.Stops.{Stops}

-- how far a run is archived: up to FLUSHED at most, and so far where all users ended and no call failed of log and archive
abbrev pub UpTo : {L D : Type 0} → Driven (Fused L) (Fused D) → Option DevError → (mark flushed : ℕ) → Type 0
UpTo driven error mark flushed =
    (mark ≤ flushed) × (driven.ended ≡ Done → driven.closed.log.failed ≡ None → error ≡ None → mark ≡ flushed)

module _ {L D : Type 0} (call : LabCall) (command : Command) (drive : Drive) (stops : Stops) (script : List ScriptLine)
    (running : CommandRuns call.source call.source_now command drive script) (laws : Laws) (start : ℕ)
    (driven : Driven (Fused L) (Fused D)) (follows : Vec Followed Global) (error : Option DevError) where
  abbrev played : Played
  played = played_of start driven.closed follows

  abbrev run : Ran
  run = ran_of played

  -- all users ended, and no device was without memory
  abbrev IsDone : Type 0 → Type 0
  IsDone P = driven.ended ≡ Done → HasMemory driven.closed → P

  -- and no call answered an error
  abbrev IsGood : Type 0 → Type 0
  IsGood P = IsDone (driven.closed.log.failed ≡ None → driven.closed.store.failed ≡ None → P)

  -- what is known of a run that was driven, of which a call of the archive's device answered this error, if it did
  pub record IsDrivenSo : Type 0 where
    pub left : (end : RunEnd) → driven.ended ≡ end → IsLeftBy call command drive stops script (Some run) follows.items end
    pub log_mid : call.log.fuse.mid ≡ failures driven.closed.log.failed
    pub data_mid : call.store.fuse.mid ≡ failures driven.closed.store.failed
    pub over : (driven.closed.lost ≡ None → ⊥) → error ≡ driven.closed.lost
    pub risen : error ≡ Some device.Failed → HasArchiveFailed call drive
    pub loses : (left : List (ℕ × ℕ)) → IsDone (IsLeft script driven.closed.history left
        → LosesOnlyByFailure (failed_in driven.closed) (Some run) left)
    pub reads : IsGood ((opened : Opened) → WhereOpened call opened (WhereToldNow call (λ log_disk data_disk.
        (reading : Reading) × IsReading log_disk.reads data_disk.reads reading)))
    pub marks : IsDone (driven.closed.lost ≡ None → driven.closed.log.failed ≡ None → driven.closed.store.failed ≡ None
        → AreMarksRead call drive (Some run) call.log.now.tells call.store.now.tells)
    pub followers : AreFollowed call drive script run follows.items call.log.now.tells call.store.now.tells
    pub archived : IsArchived (UpTo driven error) call drive script run
    pub spends : SpendsTurns call drive

  module _ (so : IsDrivenSo) where
    -- an append that lost something is told
    lost-so : (lost : Option DevError) → driven.closed.lost ≡ lost → (error ≡ Some device.Failed → ⊥) → failures lost ≡ 0
    lost-so None is alive = refl
    lost-so (Some device.NoMemory) is alive = refl
    lost-so (Some device.Failed) is alive = absurd (alive (so.over (λ none. let z = sym none ∙ is in cc) ∙ is))

    unlost : error ≡ None → driven.closed.lost ≡ None
    unlost none = by driven.closed.lost refl
      where
        by : (lost : Option DevError) → driven.closed.lost ≡ lost → driven.closed.lost ≡ None
        by None is = is
        by (Some e) is = let z = sym none ∙ so.over (λ none. let z = sym none ∙ is in cc) ∙ is in absurd (cc)

    -- SOMETHING IS LOST only where a device failed.
    loses-so : IsDone ((error ≡ Some device.Failed → ⊥) → (left : List (ℕ × ℕ)) → IsLeft script run.entries left
        → LosesOnlyBy call drive (Some run) left)
    loses-so done memory alive left left_is =
        let none : failures driven.closed.lost ≡ 0 = lost-so driven.closed.lost refl alive in
        let counted : failed_in driven.closed ≡ mids call = omega (arith, so.log_mid, so.data_mid, none) in
        inl (subst (λ (n : ℕ). LosesOnlyByFailure n (Some run) left) counted (so.loses left done memory left_is))

    loses-by : (e : Option DevError) → error ≡ e → IsDone ((left : List (ℕ × ℕ)) → IsLeft script run.entries left
        → LosesOnlyBy call drive (Some run) left)
    loses-by (Some device.Failed) is done memory left left_is = inr (so.risen is)
    loses-by None is done memory left left_is = loses-so done memory (λ failed. let z = sym is ∙ failed in cc) left left_is
    loses-by (Some device.NoMemory) is done memory left left_is =
        loses-so done memory (λ failed. let z = sym is ∙ failed in cc) left left_is

    -- WHAT IS TOLD OF THE RUN is so, whether a device failed or none.
    abbrev Told : Type 0
    Told = IsToldRightly call drive script (Some run) follows.items

    told-failed : IsDone (0 < mids call → Told)
    told-failed done memory some = record {
      loses = loses-by error refl done memory;
      marks = λ threads none. absurd (omega (arith, some, none));
      followers = so.followers;
    }

    told-archive : error ≡ Some device.Failed → Told
    told-archive failed = record {
      loses = λ left left_is. inr (so.risen failed);
      marks = λ threads none alive. absurd (alive (so.risen failed));
      followers = so.followers;
    }

    told-unfailed : IsDone (driven.closed.lost ≡ None → driven.closed.log.failed ≡ None → driven.closed.store.failed ≡ None → Told)
    told-unfailed done memory lost_none log_none data_none = record {
      loses = loses-by error refl done memory;
      marks = so.marks done memory lost_none log_none data_none;
      followers = so.followers;
    }

    -- WHAT IS LEFT OF ITS ARCHIVE is so.
    archived-within : IsArchived (λ mark flushed. mark ≤ flushed) call drive script run
    archived-within archived opened log_entry data_entry log_is data_is log_on data_on log_fresh data_fresh opens disk image told fair =
        archived-also (UpTo driven error) (λ mark flushed. mark ≤ flushed) script opened run image (λ mark flushed up_to. up_to.0)
        (so.archived archived opened log_entry data_entry log_is data_is log_on data_on log_fresh data_fresh opens disk image told fair)

    archived-whole : driven.ended ≡ Done → driven.closed.log.failed ≡ None → error ≡ None
        → IsArchived (λ mark flushed. mark ≡ flushed) call drive script run
    archived-whole done log_none none archived opened log_entry data_entry log_is data_is log_on data_on log_fresh data_fresh opens
        disk image told fair =
        archived-also (UpTo driven error) (λ mark flushed. mark ≡ flushed) script opened run image
        (λ mark flushed up_to. up_to.1 done log_none none)
        (so.archived archived opened log_entry data_entry log_is data_is log_on data_on log_fresh data_fresh opens disk image told fair)

    -- ALL USERS ENDED, by these errors.
    by-log : driven.closed.log.failed ≡ Some device.Failed → driven.ended ≡ Done
        → ComesTo call command drive stops script (course.Played played (Some fault.LogDevice))
    by-log log_is done =
        let some = ap failures log_is in (
          so.left Done done,
          told-failed done (λ lacks. omega (arith, some)) (omega (arith, so.log_mid, some)),
          omega (arith, so.log_mid, some),
          archived-within,
        )

    by-data : (log_error : Option DevError) → failures log_error ≡ 0 → driven.closed.log.failed ≡ log_error
        → driven.closed.store.failed ≡ Some device.Failed → driven.ended ≡ Done
        → ComesTo call command drive stops script (course.Played played (Some fault.DataDevice))
    by-data log_error log_none log_is data_is done =
        let none = ap failures log_is in
        let some = ap failures data_is in (
          so.left Done done,
          told-failed done (λ lacks. omega (arith, some)) (omega (arith, so.data_mid, some)),
          (omega (arith, so.data_mid, some), omega (arith, so.log_mid, none, log_none)),
          archived-within,
        )

    by-archive : (log_error data_error : Option DevError) → failures log_error ≡ 0 → failures data_error ≡ 0
        → driven.closed.log.failed ≡ log_error → driven.closed.store.failed ≡ data_error → error ≡ Some device.Failed → driven.ended ≡ Done
        → ComesTo call command drive stops script (course.Played played (Some fault.ArchiveDevice))
    by-archive log_error data_error log_none data_none log_is data_is error_is done =
        let no_log = ap failures log_is in
        let no_data = ap failures data_is in (
          so.left Done done,
          told-archive error_is,
          (so.risen error_is, omega (arith, so.log_mid, so.data_mid, no_log, no_data, log_none, data_none)),
          archived-within,
        )

    by-none : driven.closed.log.failed ≡ None → driven.closed.store.failed ≡ None → error ≡ None → driven.ended ≡ Done
        → ComesTo call command drive stops script (course.Played played None)
    by-none log_is data_is error_is done =
        let memory : HasMemory driven.closed = λ lacks. ⊎_elim
        (λ log. let e = sym log_is ∙ log in absurd (cc))
        (λ others. ⊎_elim
        (λ store. let e = sym data_is ∙ store in absurd (cc))
        (λ lost. let e = sym (unlost error_is) ∙ lost in absurd (cc))
        others)
        lacks in (
          so.left Done done,
          told-unfailed done memory (unlost error_is) log_is data_is,
          (omega (arith, so.log_mid, so.data_mid, ap failures log_is, ap failures data_is), so.reads done memory log_is data_is),
          archived-whole done log_is error_is,
        )

    lacks-memory : driven.ended ≡ Done → ComesTo call command drive stops script (course.Ended fault.Memory)
    lacks-memory done = left-memory call command drive script running laws (so.left Done done)

    done-by : (log_error data_error archive_error : Option DevError) → driven.closed.log.failed ≡ log_error
        → driven.closed.store.failed ≡ data_error → error ≡ archive_error → driven.ended ≡ Done
        → ComesTo call command drive stops script (course_done played (ended_by log_error data_error archive_error))
    done-by (Some device.Failed) data_error archive_error log_is data_is error_is done = by-log log_is done
    done-by None (Some device.Failed) archive_error log_is data_is error_is done = by-data None refl log_is data_is done
    done-by (Some device.NoMemory) (Some device.Failed) archive_error log_is data_is error_is done =
        by-data (Some device.NoMemory) refl log_is data_is done
    done-by None None (Some device.Failed) log_is data_is error_is done = by-archive None None refl refl log_is data_is error_is done
    done-by None (Some device.NoMemory) (Some device.Failed) log_is data_is error_is done =
        by-archive None (Some device.NoMemory) refl refl log_is data_is error_is done
    done-by (Some device.NoMemory) None (Some device.Failed) log_is data_is error_is done =
        by-archive (Some device.NoMemory) None refl refl log_is data_is error_is done
    done-by (Some device.NoMemory) (Some device.NoMemory) (Some device.Failed) log_is data_is error_is done =
        by-archive (Some device.NoMemory) (Some device.NoMemory) refl refl log_is data_is error_is done
    done-by None None None log_is data_is error_is done = by-none log_is data_is error_is done
    done-by None None (Some device.NoMemory) log_is data_is error_is done = lacks-memory done
    done-by None (Some device.NoMemory) None log_is data_is error_is done = lacks-memory done
    done-by None (Some device.NoMemory) (Some device.NoMemory) log_is data_is error_is done = lacks-memory done
    done-by (Some device.NoMemory) None None log_is data_is error_is done = lacks-memory done
    done-by (Some device.NoMemory) None (Some device.NoMemory) log_is data_is error_is done = lacks-memory done
    done-by (Some device.NoMemory) (Some device.NoMemory) None log_is data_is error_is done = lacks-memory done
    done-by (Some device.NoMemory) (Some device.NoMemory) (Some device.NoMemory) log_is data_is error_is done = lacks-memory done

    ended-so : (how : RunEnd) → driven.ended ≡ how
        → ComesTo call command drive stops script (course_of how played (ended_by driven.closed.log.failed driven.closed.store.failed error))
    ended-so Done how = done-by driven.closed.log.failed driven.closed.store.failed error refl refl refl how
    ended-so (Spent turns user) how =
        left-spent call command drive script running laws turns user so.spends (so.left (Spent turns user) how) archived-within

    -- WHAT THE RUN COMES TO.
    pub run-comes : ComesTo call command drive stops script
        (course_of driven.ended played (ended_by driven.closed.log.failed driven.closed.store.failed error))
    run-comes = ended-so driven.ended refl
