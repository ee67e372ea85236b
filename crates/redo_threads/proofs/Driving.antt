-- What a run in threads owes and tells, of the store that was opened.
use Rattle.std.proofs.Common.{List, Option, ap, length, refl, subst, sym, ◌∙◌, ◌≡◌}
use Rattle.model_core.specs.States as model
use Rattle.model_core.specs.{Given}
use Rattle.model_running.specs.Schedule.{HaveEnded}
use Rattle.model_script.specs.declared.script.ScriptLine.{ScriptLine}
use Rattle.redo_archive.specs.Part.{Part}
use Rattle.redo_disk.specs.{Call, Seen}
use Rattle.redo_drive.proofs.LeftRun.{have_followed}
use Rattle.redo_drive.specs.Drive.{Owes, ReadsToMarks}
use Rattle.redo_drive.specs.Followed.{HaveFollowed}
use Rattle.redo_drive.specs.{HaveArchived, AreNewFollowers, views_of}
use Rattle.redo_drive.specs.Leaving.{LeavesWith}
use Rattle.redo_drive.specs.Begins.{EndsWithReaders}
use Rattle.redo_drive.specs.Setups.{seated_actors}
use Rattle.redo_drive.specs.declared.actor.Actor.{Actor}
use Rattle.redo_drive.specs.declared.closed.Closed.{Closed}
use Rattle.redo_drive.specs.declared.plan.Plan.{Plan}
use Rattle.redo_follow.specs.Following.{Following}
use Rattle.redo_store.specs.declared.opened.Opened.{Opened}
use Rattle.redo_rule.specs.Closing.{done_with, IsOwedRun}
use Rattle.redo_rule.specs.Failing.{CodeHasCause}
use Rattle.redo_threads.proofs.Scripted.{are_of_script}
use Rattle.redo_threads.specs.Ended.{HaveRun}
use Rattle.redo_threads.specs.InThreads.{AreActorsOf, RunsInThreads}

module _ {L D : Type 0} (log_seen : L → Seen) (log_gives : L → Call → L → Type 0) (data_seen : D → Seen)
    (data_gives : D → Call → D → Type 0) (known opened : Opened L D) (lines script : List ScriptLine)
    (closed : Closed L D) (opened_is : known ≡ opened) (script_is : lines ≡ script) where
  pub owes : (actors : List model.Actor) → HaveEnded actors
      → IsOwedRun log_seen log_gives data_seen data_gives known lines actors closed
      → Owes log_seen log_gives data_seen data_gives opened script (done_with closed)
  owes actors ended owed =
      subst (λ (o : Opened L D). Owes log_seen log_gives data_seen data_gives o script (done_with closed)) opened_is
      (subst (λ (s : List ScriptLine). Owes log_seen log_gives data_seen data_gives known s (done_with closed)) script_is
      (record { comes_to = owed.comes_to ended; holds = owed.holds; owed_synced = owed.owed_synced ended }))

  pub reads_so : ReadsToMarks log_seen data_seen known lines closed
      → ReadsToMarks log_seen data_seen opened script closed
  reads_so reads = subst (λ (o : Opened L D). ReadsToMarks log_seen data_seen o script closed) opened_is
      (subst (λ (s : List ScriptLine). ReadsToMarks log_seen data_seen known s closed) script_is reads)

  pub has_cause : CodeHasCause log_seen data_seen closed.code known.log closed.log known.store closed.store closed.lost
      → CodeHasCause log_seen data_seen closed.code opened.log closed.log opened.store closed.store closed.lost
  has_cause =
      subst (λ (o : Opened L D). CodeHasCause log_seen data_seen closed.code o.log closed.log o.store closed.store closed.lost)
      opened_is

  -- and of its archive
  pub archived : {A : Type 0} (seen : A → Seen) (gives : A → Call → A → Type 0) (actors : List model.Actor)
      (before after : Option (Part A))
      → HaveArchived log_seen data_seen seen gives known lines closed actors before after
      → HaveArchived log_seen data_seen seen gives opened script closed actors before after
  archived seen gives actors before after have =
      subst (λ (o : Opened L D). HaveArchived log_seen data_seen seen gives o script closed actors before after)
      opened_is
      (subst (λ (s : List ScriptLine). HaveArchived log_seen data_seen seen gives known s closed actors before after)
      script_is have)

  module _ {F : Type 0} (stands : F → List Given → Type 0) (told plan : Plan) (plan_is : told ≡ plan)
      (starts actors : List (Actor F))
      (left : LeavesWith log_seen log_gives data_seen data_gives stands known lines told starts actors closed)
    where
      pub runs_in_threads : HaveRun (views_of starts) (views_of actors) closed
          → RunsInThreads opened script plan.log_only (views_of actors) (done_with closed)
      runs_in_threads run = record {
        done = refl;
        of_script = subst (λ (p : Plan). AreActorsOf script p.log_only (views_of actors)) plan_is
            (subst (λ (s : List ScriptLine). AreActorsOf s told.log_only (views_of actors)) script_is
            (are_of_script log_seen log_gives data_seen data_gives stands known lines told starts actors closed left));
        ended = run.ended;
        answered = run.answered;
        listed = run.listed;
      }

      -- what is left of the followers with which the run was made
      pub followed : (fs : List (Following F)) → AreNewFollowers opened.start fs → plan.followers ≡ length fs
          → EndsWithReaders opened.start plan.archive starts fs
          → seated_actors known.shape lines known.start told ≡ views_of starts
          → HaveFollowed log_seen data_seen stands opened script fs actors closed
      followed fs new many ends are =
          subst (λ (o : Opened L D). HaveFollowed log_seen data_seen stands o script fs actors closed) opened_is
          (subst (λ (s : List ScriptLine). HaveFollowed log_seen data_seen stands known s fs actors closed) script_is
          (have_followed log_seen log_gives data_seen data_gives stands known lines told starts actors
          (done_with closed) left fs
          (subst (λ (o : Opened L D). AreNewFollowers o.start fs) (sym opened_is) new)
          (ap (λ (p : Plan). p.followers) plan_is ∙ many) (sym are)
          (subst (λ (p : Plan). EndsWithReaders known.start p.archive starts fs) (sym plan_is)
          (subst (λ (o : Opened L D). EndsWithReaders o.start plan.archive starts fs) (sym opened_is) ends))))
