-- What a run by turns leaves whose users write for themselves, and so what it comes to.
use Rattle.std.proofs.Common.{List, Option, ap, is_some, refl, slice_index, subst, suc, sym, true, zero, ⊎_elim, ℕ, ◌∙◌, ◌≡◌}
use lib.ListN.{get_elem?}
use Rattle.model_base.specs.declared.shape.Shape.{Shape}
use Rattle.model_core.specs.{filled, Given, lent, lsn, next, failed_at}
use Rattle.model_core.specs.States as model
use Rattle.model_core.specs.declared.ops.Step.{Step}
use Rattle.model_own.specs.{OwnCore, OwnTurn, with_writer, own_lends, own_next}
use Rattle.model_ownrun.proofs.OwnRuns.{AloneFrom, never_idle}
use Rattle.model_ownrun.specs.OwnRuns.{own_store}
use Rattle.model_running.proofs.OpenLines as open_lines
use Rattle.model_running.proofs.Seated.{seated_seats}
use Rattle.model_running.specs.{HaveEnded, history_of, LeavesOpen, marks_in, TakesTurns, TurnStore, word_marks}
use Rattle.model_report.specs.declared.entry.Entry.{Entry}
use Rattle.model_script.specs.declared.script.ScriptLine.{ScriptLine}
use Rattle.redo_archive.specs.Part.{Part}
use Rattle.redo_disk.specs.{Call, Seen}
use Rattle.redo_drive.proofs.LeftRun as left_run
use Rattle.redo_drive.proofs.ShapeStays.{served_shape}
use Rattle.redo_drive.specs.{HaveArchived, CallOnBoth, CallsOn, ListsInOrder, views_of, RunOf, run_data_side, run_log_side, AreNewFollowers, MayBegin, plan_with}
use Rattle.redo_drive.specs.Beginning.{StandsWith}
use Rattle.redo_drive.specs.Drive.{HasMetError, Owes}
use Rattle.redo_drive.specs.Followed.{HaveFollowed}
use Rattle.redo_drive.specs.Leaving.{LeavesWith}
use Rattle.redo_drive.specs.LogPartSide as log_part
use Rattle.redo_drive.specs.declared.actor.Actor.{Actor}
use Rattle.redo_drive.specs.declared.drive.Driven.{Driven}
use Rattle.redo_drive.specs.declared.drive.RunEnd.{RunEnd}
use Rattle.redo_drive.specs.declared.drive.RunEnd.TheVariants as ended
use Rattle.redo_drive.specs.declared.parts.Parts.{Parts}
use Rattle.redo_follow.specs.Following.{Following}
use Rattle.redo_logdev.specs.Part as log
use Rattle.redo_machine.proofs.ArchiveEnds.{have_archived, loses_by}
use Rattle.redo_machine.proofs.EndsAs.{ends_as, turns_taken}
use Rattle.redo_machine.proofs.StartLayout.{start_layout}
use Rattle.redo_machine.specs.Reading.{lost_by}
use Rattle.redo_machine.specs.ByTurns.{EndsAs, NothingIsDone, RunsByTurns, turn_store}
use Rattle.redo_machine.specs.declared.drive.Turns.{Turns}
use Rattle.redo_ownmachine.proofs.OwnThin.{own_thin, own_turn_thin}
use Rattle.redo_ownmachine.proofs.Places.{crew_views}
use Rattle.redo_ownmachine.proofs.Serves.{its_data_laws, its_log_laws}
use Rattle.redo_ownmachine.specs.OwnStore.{OwnBeginsRun, AskInRun, own_core_of, OwnComesFrom}
use Rattle.redo_ownmachine.specs.OwnCrew.{crew_of, seats_of}
use Rattle.redo_ownmachine.specs.OwnSeats.{actors_of}
use Rattle.redo_ownmachine.specs.OwnTurns.{OwnRunEndsAs, own_run_store}
use Rattle.redo_ownmachine.specs.declared.machine.OwnMachine.{OwnMachine}
use Rattle.redo_store.specs.Part as store
use Rattle.redo_store.specs.declared.opened.Opened.{Opened}

module _ {L D : Type 0} (log_seen : L → Seen) (data_seen : D → Seen) (run : RunOf L D) where
  -- No turn changes the shape of the log part.
  turn_shape : (old new : OwnCore (run_log_side log_seen data_seen run) (run_data_side log_seen data_seen run))
      (seat : ℕ) (answer : _) (step : _)
      → OwnTurn (run_log_side log_seen data_seen run) (run_data_side log_seen data_seen run) old seat answer step new
      → ◌≡◌ {A = Shape} new.log_part.shape old.log_part.shape
  turn_shape old new seat answer step t = ⊎_elim
      (λ u. served_shape log_seen (log_seen run.first_log.dev).faults run.first_log.marks.number
      (log_part.HasBegun log_seen (lsn run.setup.base) run.first_log) old.log_part new.log_part u.code
      (own_lends u.who old.work) (own_next u.who old.work) u.log_served)
      (λ o. served_shape log_seen (log_seen run.first_log.dev).faults run.first_log.marks.number
      (log_part.HasBegun log_seen (lsn run.setup.base) run.first_log) old.log_part new.log_part o.turn.code
      (lent (filled o.turn.who o.turn.filling)) (next o.turn.who) o.turn.log_served) t

  turns_shape : (Tells : OwnCore (run_log_side log_seen data_seen run) (run_data_side log_seen data_seen run) → ℕ → Step
      → OwnCore (run_log_side log_seen data_seen run) (run_data_side log_seen data_seen run) → Type 0) (seed max n : ℕ)
      (first last : OwnCore (run_log_side log_seen data_seen run) (run_data_side log_seen data_seen run))
      → TakesTurns (own_store (run_log_side log_seen data_seen run) (run_data_side log_seen data_seen run) Tells) seed max
      n first last → ◌≡◌ {A = Shape} last.log_part.shape first.log_part.shape
  turns_shape Tells seed max zero first last same =
      ap (λ (s : OwnCore (run_log_side log_seen data_seen run) (run_data_side log_seen data_seen run)). s.log_part.shape)
      same
  turns_shape Tells seed max (suc n) first last r =
      turn_shape r.before last _ r.turn.answer r.step r.turn.turn
      ∙ turns_shape Tells seed max n first r.before r.earlier

-- The machine began the run of the script on the store, and the turns of the seed led from there to its end, at which the
-- invariant holds, with what the followers' receivers have got and with the archive, and of which the closed run tells.
pub record OwnTurnsLead {L D A R : Type 0} (log_seen : L → Seen) (log_gives : L → Call → L → Type 0)
    (data_seen : D → Seen) (data_gives : D → Call → D → Type 0) (arch_seen : A → Seen)
    (arch_gives : A → Call → A → Type 0) (stands : R → List Given → Type 0) (opened : Opened L D)
    (script : List ScriptLine) (turns : Turns) (before : Option (Part A)) (followers : List (Following R))
    (actors : List (Actor R)) (driven : Driven L D) : Type 0 where
  pub first : OwnMachine L D A R
  pub start : OwnBeginsRun log_seen data_seen stands opened script (plan_with turns.log_only before followers) followers
      first
  pub last : OwnMachine L D A R
  pub actors_are : ◌≡◌ {A = List (Actor R)} actors (crew_of last)
  pub comes : OwnComesFrom log_seen data_seen arch_seen arch_gives stands start.begins.run (is_some before)
      start.start.actors.items before last
  pub lost : driven.closed.lost ≡ lost_by last.archive
  pub ends : OwnRunEndsAs log_seen log_gives data_seen data_gives start.begins.run turns.seed turns.max first.parts
      (seats_of first) driven.ended last.parts (seats_of last)
  pub calls : CallOnBoth log_gives data_gives first.parts last.parts
  pub log : driven.closed.log ≡ last.parts.log
  pub data_part : driven.closed.store ≡ last.parts.store
  pub marks : driven.closed.marks ≡ marks_in last.parts.words.words
  pub code : driven.closed.code ≡ slice_index last.parts.words.words failed_at
  pub history : driven.closed.history ≡ history_of comes.from.runs.running.log_ghost.answered
      (word_marks comes.from.runs.running.shared) comes.from.runs.running.log_ghost.log
  pub listed : ListsInOrder driven.closed.marks (views_of (crew_of last)) driven.closed.history

module _ {L D A R : Type 0} {arch_gives : A → Call → A → Type 0} (log_seen : L → Seen)
    (log_gives : L → Call → L → Type 0) (data_seen : D → Seen) (data_gives : D → Call → D → Type 0)
    (arch_seen : A → Seen) (stands : R → List Given → Type 0) (opened : Opened L D) (script : List ScriptLine)
    (turns : Turns) (before : Option (Part A))
    (followers : List (Following R)) (actors : List (Actor R)) (driven : Driven L D)
    (by : OwnTurnsLead log_seen log_gives data_seen data_gives arch_seen arch_gives stands opened script turns before
    followers actors driven) where
  abbrev run : RunOf L D
  run = by.start.begins.run

  abbrev starts : List (Actor R)
  starts = by.start.start.actors.items

  abbrev ending : List (Actor R)
  ending = crew_of by.last

  -- the actors at the end, as the definitions see them
  ending_views : ◌≡◌ {A = List model.Actor} (views_of ending) (actors_of (seats_of by.last))
  ending_views = crew_views by.last.work by.last.users.items by.last.others.items

  starts_views : ◌≡◌ {A = List model.Actor} (views_of starts) (actors_of (seats_of by.first))
  starts_views = ap views_of (sym by.start.crew)
      ∙ crew_views by.first.work by.first.users.items by.first.others.items

  begins_at : StandsWith opened script (plan_with turns.log_only before followers) run by.first.parts
      (actors_of (seats_of by.first))
  begins_at = subst (λ (p : Parts L D). StandsWith opened script (plan_with turns.log_only before followers) run p
      (actors_of (seats_of by.first))) (sym by.start.parts)
      (subst (λ (l : List model.Actor). StandsWith opened script (plan_with turns.log_only before followers) run
      by.start.start.parts l) starts_views by.start.begins.stands)

  abbrev in_run : TurnStore (run_log_side log_seen data_seen run) (run_data_side log_seen data_seen run)
  in_run = own_run_store log_seen log_gives data_seen data_gives run

  abbrev first : OwnCore (run_log_side log_seen data_seen run) (run_data_side log_seen data_seen run)
  first = own_core_of log_seen data_seen run by.first.parts (seats_of by.first)

  abbrev last : OwnCore (run_log_side log_seen data_seen run) (run_data_side log_seen data_seen run)
  last = own_core_of log_seen data_seen run by.last.parts (seats_of by.last)

  -- nothing was done yet
  begins : NothingIsDone log_seen data_seen opened script (plan_with turns.log_only before followers)
      (with_writer (own_thin log_seen data_seen run first))
  begins = let stood = begins_at in record {
    layout = ap (λ (p : Parts L D). p.words.layout) by.start.parts
        ∙ start_layout log_seen data_seen stands opened script (plan_with turns.log_only before followers)
        followers by.start.start by.start.begins;
    words = ap (λ (p : Parts L D). p.words.words) by.start.parts ∙ by.start.begins.words;
    actors = stood.are_new;
    log = stood.log;
    data_part = stood.data_part;
    lists = stood.none_listed;
  }

  -- so the run is by turns
  pub by_turns : RunsByTurns log_seen log_gives data_seen data_gives true opened script turns
      (plan_with turns.log_only before followers) (views_of actors) driven
  by_turns = record {
    first = own_thin log_seen data_seen run first;
    begins = begins;
    is_new = by.start.at_home;
    last = own_thin log_seen data_seen run last;
    actors_are = ap views_of by.actors_are ∙ ending_views;
    ends = ends_as in_run (turn_store log_seen log_gives data_seen data_gives true) (own_thin log_seen data_seen run)
        (AloneFrom (run_log_side log_seen data_seen run) (its_log_laws log_seen data_seen run)
        (run_data_side log_seen data_seen run) (its_data_laws log_seen data_seen run) run.setup)
        (λ s. refl) (λ s. refl)
        (λ old new seat how alone t.
        let law = never_idle (run_log_side log_seen data_seen run) (its_log_laws log_seen data_seen run)
        (run_data_side log_seen data_seen run) (its_data_laws log_seen data_seen run) run.setup old new seat t.answer
        how alone t.turn in (
          record {
            answer = t.answer;
            turn = own_turn_thin log_seen data_seen run old new seat t.answer how t.turn;
            told = record { asked = record { user = t.told.user; other = t.told.other }; alone = law.0 };
          },
          law.1,
        )) turns.seed turns.max first by.start.alone driven.ended last by.ends;
    log = by.log;
    data_part = by.data_part;
    marks = by.marks;
    code = by.code;
    history = subst (λ (l : List (Actor R)). ListsInOrder driven.closed.marks (views_of l) driven.closed.history)
        (sym by.actors_are) by.listed;
    few = λ not. absurd (cc);
  }

  log_is : ◌≡◌ {A = log.Part L} by.first.parts.log opened.log
  log_is = ap (λ (p : Parts L D). p.log) by.start.parts ∙ by.start.begins.log

  data_is : ◌≡◌ {A = store.Part D} by.first.parts.store opened.store
  data_is = ap (λ (p : Parts L D). p.store) by.start.parts ∙ by.start.begins.data_part

  pub leaves : LeavesWith log_seen log_gives data_seen data_gives stands opened script
      (plan_with turns.log_only before followers) starts ending driven.closed
  leaves = record {
    run = run;
    is_run = by.start.begins.is_run;
    begun = by.start.begins.begun;
    last = by.last.parts;
    from = by.comes.from;
    log_calls = subst (λ (z : log.Part L). CallsOn log_gives z.dev z.failed by.last.parts.log.dev
        by.last.parts.log.failed) log_is by.calls.log;
    data_calls = subst (λ (z : store.Part D). CallsOn data_gives z.dev z.failed by.last.parts.store.dev
        by.last.parts.store.failed) data_is by.calls.data_part;
    log_shape =
        let taken = turns_taken in_run turns.seed turns.max first driven.ended last by.ends in
        turns_shape log_seen data_seen run (AskInRun log_seen log_gives data_seen data_gives run) turns.seed turns.max
        taken.0 first last taken.1
        ∙ ap (λ (z : log.Part L). z.shape) log_is;
    log = by.log;
    data_part = by.data_part;
    marks = by.marks;
    code = by.code;
    history = by.history;
    lost = loses_by log_seen data_seen arch_seen arch_gives run by.last.parts (views_of ending) by.comes.from.runs before
        by.last.archive driven.closed.lost by.comes.come by.lost;
  }

  abbrev Ends : RunEnd → Type 0
  Ends how = EndsAs in_run turns.seed turns.max first how last

  have_ended : driven.ended ≡ ended.Done → HaveEnded (views_of ending)
  have_ended done = subst HaveEnded (sym ending_views) (subst Ends done by.ends).ended

  leaves_open : (count user : ℕ) → driven.ended ≡ ended.Spent count user
      → LeavesOpen script driven.closed.history (HasMetError driven.closed) user
  unfolding leaves
  leaves_open count user spent =
      let end = (subst Ends spent by.ends).1 in
      let c = run.setup in let g = by.comes.from.runs.running.log_ghost in let m = by.comes.from.runs.running.shared in
      subst (λ (z : List Entry). LeavesOpen script z (HasMetError driven.closed) user) (sym by.history)
      (open_lines.leaves_open (run_log_side log_seen data_seen run) c m g by.last.parts.log (views_of ending)
      by.comes.from.runs.running.both.logged (word_marks m) script opened.shape by.start.begins.is_run.of_script
      (seated_seats c (views_of ending) by.comes.from.runs.seated script opened.shape by.start.begins.is_run.of_script)
      (HasMetError driven.closed)
      (λ failed. left_run.met_error log_seen log_gives data_seen data_gives stands opened script
      (plan_with turns.log_only before followers) starts ending driven leaves
      (m.failed, by.comes.from.runs.running.both.cause failed)) user end.seat end.state
      (ap (λ (l : List model.Actor). get_elem? l end.seat) ending_views ∙ end.is) end.number end.not_ended
      (λ j u there. end.least j u (ap (λ (l : List model.Actor). get_elem? l j) (sym ending_views) ∙ there)))

  pub owes : MayBegin opened script turns.log_only → Owes log_seen log_gives data_seen data_gives opened script driven
  owes may = left_run.owes log_seen log_gives data_seen data_gives stands opened script
      (plan_with turns.log_only before followers) starts ending driven leaves may.runnable have_ended leaves_open

  pub followed : AreNewFollowers opened.start followers → HaveFollowed log_seen data_seen stands opened script
      followers actors driven.closed
  followed new = subst (λ (l : List (Actor R)). HaveFollowed log_seen data_seen stands opened script followers l
      driven.closed) (sym by.actors_are)
      (left_run.have_followed log_seen log_gives data_seen data_gives stands opened script
      (plan_with turns.log_only before followers) starts ending driven leaves followers new refl
      by.start.begins.stands.are_new by.start.begins.followers)

  -- WHAT IT LEAVES OF THE ARCHIVE.
  pub archived : HaveArchived log_seen data_seen arch_seen arch_gives opened script driven.closed (views_of actors)
      before by.last.archive
  unfolding leaves
  archived = subst (λ (l : List (Actor R)). HaveArchived log_seen data_seen arch_seen arch_gives opened script
      driven.closed (views_of l) before by.last.archive) (sym by.actors_are)
      (have_archived log_seen log_gives data_seen data_gives arch_seen arch_gives stands opened script
      (plan_with turns.log_only before followers) starts ending driven leaves before by.last.archive by.comes.come
      by.lost)
