-- What a run by turns leaves, and so what it comes to.
use Rattle.std.proofs.Common.{List, Option, ap, arith, cond, false, is_some, length, refl, slice_index, subst, sym, true, ℕ, ◌∙◌, ◌<◌, ◌≡◌}
use Rattle.model_core.specs.{Core, Given, HasLost, lsn, failed_at}
use Rattle.model_running.proofs.OpenLines as open_lines
use Rattle.model_running.proofs.Seated.{seated_seats}
use Rattle.model_running.proofs.TurnsAs.{plain_spent}
use Rattle.model_running.specs.{AskAt, HaveEnded, history_of, IsDone, IsSpent, LeavesOpen, marks_in, TurnStore, word_marks}
use Rattle.model_report.specs.declared.entry.Entry.{Entry}
use Rattle.model_script.specs.declared.script.ScriptLine.{ScriptLine}
use Rattle.model_script.specs.declared.words.TheConstants.{MAX_TURNS}
use Rattle.redo_disk.specs.{Call, Seen}
use Rattle.redo_logdev.specs.Part as log
use Rattle.redo_archive.specs.Part.{Part}
use Rattle.redo_archiver.specs.{append_code}
use Rattle.redo_drive.proofs.ShapeStays.{run_shape}
use Rattle.redo_drive.proofs.ThinTurns.{thin, turn_thin}
use Rattle.redo_drive.specs.{HaveArchived, HasComeTo, AskOfParts, AreNewFollowers, MayBegin, plan_with, CallOnBoth, CallsOn, ListsInOrder, views_of, RunsFromWith, RunOf, run_data_side, run_log_side, core_of}
use Rattle.redo_drive.specs.LogPartSide as log_part
use Rattle.redo_drive.proofs.LeftRun as left_run
use Rattle.redo_drive.specs.Followed.{HaveFollowed}
use Rattle.redo_drive.specs.Drive.{HasMetError, Owes}
use Rattle.redo_machine.proofs.Alone as alone
use Rattle.redo_machine.proofs.ArchiveEnds.{have_archived, loses_by}
use Rattle.redo_machine.specs.Reading.{lost_by}
use Rattle.redo_machine.proofs.EndsAs.{ends_as, turns_taken}
use Rattle.redo_machine.proofs.StartLayout.{start_layout}
use Rattle.redo_machine.specs.ByTurns.{EndsAs, NothingIsDone, RunsByTurns, turn_store}
use Rattle.redo_drive.specs.Begins.{BeginsWith}
use Rattle.redo_drive.specs.Leaving.{LeavesWith}
use Rattle.redo_drive.specs.declared.making.Beginning.{Beginning}
use Rattle.redo_machine.specs.Turns.{RunEndsAs, run_store}
use Rattle.redo_drive.specs.declared.actor.Actor.{Actor}
use Rattle.redo_drive.specs.declared.drive.Driven.{Driven}
use Rattle.redo_machine.specs.declared.drive.Turns.{Turns}
use Rattle.redo_drive.specs.declared.parts.Parts.{Parts}
use Rattle.redo_drive.specs.declared.drive.RunEnd.{RunEnd}
use Rattle.redo_drive.specs.declared.drive.RunEnd.TheVariants as ended
use Rattle.redo_follow.specs.Following.{Following}
use Rattle.redo_store.specs.declared.opened.Opened.{Opened}
use Rattle.redo_store.specs.Part as store

-- The parts and actors began the run of the script on the store, and the turns of the seed led from there to its end, at which
-- the invariant holds, with what the followers' receivers have got, and of which the closed run tells; and the archive has
-- come there with them.
pub record TurnsLead {L D A R : Type 0} (log_seen : L → Seen) (log_gives : L → Call → L → Type 0) (data_seen : D → Seen)
    (data_gives : D → Call → D → Type 0) (arch_seen : A → Seen) (arch_gives : A → Call → A → Type 0)
    (stands : R → List Given → Type 0) (opened : Opened L D) (script : List ScriptLine) (turns : Turns)
    (before : Option (Part A)) (followers : List (Following R))
    (actors : List (Actor R)) (driven : Driven L D) (after : Option (Part A)) : Type 0 where
  pub first : Beginning L D R
  pub begins : BeginsWith log_seen data_seen stands opened script (plan_with turns.log_only before followers) followers
      first
  pub last : Parts L D
  pub from : RunsFromWith log_seen data_seen stands begins.run (is_some before) first.actors.items last actors
  pub come : HasComeTo log_seen data_seen arch_seen arch_gives begins.run last (views_of actors) from.runs before after
  pub lost : driven.closed.lost ≡ lost_by after
  pub ends : RunEndsAs log_seen log_gives data_seen data_gives begins.run turns.seed turns.max first.parts
      (views_of first.actors.items) driven.ended last (views_of actors)
  pub calls : CallOnBoth log_gives data_gives first.parts last
  pub log : driven.closed.log ≡ last.log
  pub data_part : driven.closed.store ≡ last.store
  pub marks : driven.closed.marks ≡ marks_in last.words.words
  pub code : driven.closed.code ≡ slice_index last.words.words failed_at
  pub history : driven.closed.history ≡ history_of from.runs.running.log_ghost.answered
      (word_marks from.runs.running.shared) from.runs.running.log_ghost.log
  pub listed : ListsInOrder driven.closed.marks (views_of actors) driven.closed.history

module _ {L D A R : Type 0} {arch_gives : A → Call → A → Type 0} (log_seen : L → Seen)
    (log_gives : L → Call → L → Type 0) (data_seen : D → Seen) (data_gives : D → Call → D → Type 0) (arch_seen : A → Seen)
    (stands : R → List Given → Type 0) (opened : Opened L D) (script : List ScriptLine) (turns : Turns)
    (before : Option (Part A)) (followers : List (Following R))
    (actors : List (Actor R)) (driven : Driven L D) (after : Option (Part A))
    (by : TurnsLead log_seen log_gives data_seen data_gives arch_seen arch_gives stands opened script turns before
    followers actors driven after) where
  abbrev run : RunOf L D
  run = by.begins.run

  abbrev in_run : TurnStore (run_log_side log_seen data_seen run) (run_data_side log_seen data_seen run)
  in_run = run_store log_seen log_gives data_seen data_gives run

  abbrev first : Core (run_log_side log_seen data_seen run) (run_data_side log_seen data_seen run)
  first = core_of log_seen data_seen run by.first.parts (views_of by.first.actors.items)

  abbrev last : Core (run_log_side log_seen data_seen run) (run_data_side log_seen data_seen run)
  last = core_of log_seen data_seen run by.last (views_of actors)

  -- where the turns are spent, all of them are
  is_spent : (count user : ℕ) → driven.ended ≡ ended.Spent count user
      → (count ≡ turns.max) × IsSpent in_run turns.seed turns.max user first last
  is_spent count user spent = subst (λ (z : RunEnd). EndsAs in_run turns.seed turns.max first z last) spent by.ends

  -- and with the log alone, without archiver and followers, they are few
  are_few : MayBegin opened script turns.log_only → (count user : ℕ) → driven.ended ≡ ended.Spent count user
      → turns.log_only ≡ true → is_some before ≡ false → length followers ≡ 0 → count < MAX_TURNS
  are_few may count user spent only unarchived none =
      let all = is_spent count user spent in
      let few = alone.spent_are_fewer log_seen data_seen stands opened script
      (plan_with turns.log_only before followers)
      followers by.first by.begins may only unarchived none
      turns.seed turns.max user last
      (plain_spent (run_log_side log_seen data_seen run) (run_data_side log_seen data_seen run)
      (AskAt (run_log_side log_seen data_seen run) (run_data_side log_seen data_seen run)
      (AskOfParts log_gives data_gives)) turns.seed turns.max user first last all.1) in omega (arith, all.0)

  -- nothing was done yet
  begins : NothingIsDone log_seen data_seen opened script (plan_with turns.log_only before followers)
      (thin log_seen data_seen run first)
  begins = let stood = by.begins.stands in record {
    layout = start_layout log_seen data_seen stands opened script (plan_with turns.log_only before followers)
        followers by.first by.begins;
    words = by.begins.words;
    actors = stood.are_new;
    log = stood.log;
    data_part = stood.data_part;
    lists = stood.none_listed;
  }

  -- so the run is by turns
  pub by_turns : MayBegin opened script turns.log_only
      → RunsByTurns log_seen log_gives data_seen data_gives false opened script turns
      (plan_with turns.log_only before followers) (views_of actors) driven
  by_turns may = record {
    first = thin log_seen data_seen run first;
    begins = begins;
    is_new = tt;
    last = thin log_seen data_seen run last;
    actors_are = refl;
    ends = ends_as in_run (turn_store log_seen log_gives data_seen data_gives false) (thin log_seen data_seen run)
        (λ s. Unit {0}) (λ s. refl) (λ s. refl)
        (λ old new seat how none t. (
          record {
            answer = t.answer;
            turn = turn_thin log_seen data_seen run old new seat t.answer how t.turn;
            told = t.told;
          },
          tt,
        )) turns.seed turns.max first tt driven.ended last by.ends;
    log = by.log;
    data_part = by.data_part;
    marks = by.marks;
    code = by.code;
    history = by.listed;
    few = λ plain. are_few may;
  }

  -- an archiver that has lost its archive did so by the error of the archive
  lost_by_archive : cond (is_some before)
      ((code : ℕ) → HasLost (views_of actors) code → code ≡ append_code driven.closed.lost) (Unit {0})
  lost_by_archive = loses_by log_seen data_seen arch_seen arch_gives by.begins.run by.last (views_of actors) by.from.runs before after
      driven.closed.lost by.come by.lost

  pub leaves : LeavesWith log_seen log_gives data_seen data_gives stands opened script
      (plan_with turns.log_only before followers) by.first.actors.items actors driven.closed
  leaves = record {
    run = run;
    is_run = by.begins.is_run;
    begun = by.begins.begun;
    last = by.last;
    from = by.from;
    log_calls = subst (λ (z : log.Part L). CallsOn log_gives z.dev z.failed by.last.log.dev by.last.log.failed) by.begins.log by.calls.log;
    data_calls = subst (λ (z : store.Part D). CallsOn data_gives z.dev z.failed by.last.store.dev by.last.store.failed) by.begins.data_part by.calls.data_part;
    log_shape =
        let taken = turns_taken in_run turns.seed turns.max first driven.ended last by.ends in
        run_shape log_seen (log_seen run.first_log.dev).faults run.first_log.marks.number
        (log_part.HasBegun log_seen (lsn run.setup.base) run.first_log) (run_data_side log_seen data_seen run)
        (AskAt (run_log_side log_seen data_seen run) (run_data_side log_seen data_seen run)
        (AskOfParts log_gives data_gives)) turns.seed turns.max taken.0 first last taken.1
        ∙ ap (λ (z : log.Part L). z.shape) by.begins.log;
    log = by.log;
    data_part = by.data_part;
    marks = by.marks;
    code = by.code;
    history = by.history;
    lost = lost_by_archive;
  }

  is_done : driven.ended ≡ ended.Done → IsDone in_run turns.seed turns.max first last
  is_done done = subst (λ (z : RunEnd). EndsAs in_run turns.seed turns.max first z last) done by.ends

  leaves_open : (count user : ℕ) → driven.ended ≡ ended.Spent count user → LeavesOpen script driven.closed.history (HasMetError driven.closed) user
  unfolding leaves
  leaves_open count user spent =
      let end = (is_spent count user spent).1 in
      let c = by.begins.run.setup in let g = by.from.runs.running.log_ghost in let m = by.from.runs.running.shared in
      subst (λ (z : List Entry). LeavesOpen script z (HasMetError driven.closed) user) (sym by.history)
      (open_lines.leaves_open (run_log_side log_seen data_seen by.begins.run) c m g by.last.log (views_of actors)
      by.from.runs.running.both.logged (word_marks m) script opened.shape by.begins.is_run.of_script
      (seated_seats c (views_of actors) by.from.runs.seated script opened.shape by.begins.is_run.of_script)
      (HasMetError driven.closed)
      (λ failed. left_run.met_error log_seen log_gives data_seen data_gives stands opened script
      (plan_with turns.log_only before followers) by.first.actors.items actors driven leaves
      (m.failed, by.from.runs.running.both.cause failed)) user end.seat end.state end.is end.number end.not_ended end.least)

  has_ended : driven.ended ≡ ended.Done → HaveEnded (views_of actors)
  has_ended done = (is_done done).ended

  pub owes : MayBegin opened script turns.log_only → Owes log_seen log_gives data_seen data_gives opened script driven
  owes may = left_run.owes log_seen log_gives data_seen data_gives stands opened script
      (plan_with turns.log_only before followers) by.first.actors.items actors driven leaves may.runnable has_ended
      leaves_open

  pub followed : AreNewFollowers opened.start followers → HaveFollowed log_seen data_seen stands opened script
      followers actors driven.closed
  followed new = left_run.have_followed log_seen log_gives data_seen data_gives stands opened script
      (plan_with turns.log_only before followers) by.first.actors.items actors driven leaves followers new refl
      by.begins.stands.are_new by.begins.followers

  -- WHAT IT LEAVES OF THE ARCHIVE.
  pub archived : HaveArchived log_seen data_seen arch_seen arch_gives opened script driven.closed (views_of actors)
      before after
  unfolding leaves
  archived = have_archived log_seen log_gives data_seen data_gives arch_seen arch_gives stands opened script
      (plan_with turns.log_only before followers) by.first.actors.items actors driven leaves before after by.come
      by.lost
