-- What a run in threads leaves of its archive.
use Rattle.std.proofs.Common.{List, None, Option, Some, [], arith, refl, slice_index, subst, sym, true, ℕ, ◌∙◌, ◌∷◌, ◌≡◌, ◌≤◌}
use Rattle.std.specs.List.{AllByRecursion}
use lib.ListN.{get_elem?}
use mathlib.Core.Option as maybe
use Rattle.atomic_table.specs.declared.shared.Seat.{Seat}
use Rattle.model_core.specs.States as model
use Rattle.model_core.specs.{LogSide, archives, Entry, flushed_at, Given, lsn, ReaderState}
use Rattle.model_log.specs.{IsDataLsn, IsRunOf}
use Rattle.model_log.specs.declared.group.Whole.{Whole}
use Rattle.model_running.proofs.Groups.{run_of_log}
use Rattle.model_running.specs.Histories.{AreWholesOf}
use Rattle.model_running.specs.ReadHalf.{ArchiverHas}
use Rattle.redo_archive.specs.Part.{Part}
use Rattle.redo_archiver.specs.{IsFullBlock}
use Rattle.redo_disk.specs.{Call, Seen}
use Rattle.redo_disk.specs.declared.error.DevError.{DevError}
use Rattle.redo_drive.proofs.ArchiveGroups.{front_of}
use Rattle.redo_drive.proofs.ArchiveLeft.{has_archived}
use Rattle.redo_drive.proofs.ArchiveTurns.{flushed_place, flushed_word}
use Rattle.redo_drive.specs.{HasArchived, HasCome, run_log_side, views_of}
use Rattle.redo_drive.specs.declared.actor.Actor.{Actor}
use Rattle.redo_drive.specs.declared.closed.Closed.{Closed}
use Rattle.redo_ownrule.specs.Leaving.{LeavesHeard}
use Rattle.redo_rule.specs.Closing.{done_with}
use Rattle.redo_rule.specs.Handing.{IsOfRun}
use Rattle.redo_rule.specs.Mine.{heard_of}
use Rattle.redo_rule.specs.declared.law.About.{About}
use Rattle.redo_rule.specs.declared.law.Block.{Block}
use Rattle.redo_rule.specs.declared.law.Slot.{Slot}
use Rattle.redo_rule.specs.declared.law.View.{View}
use Rattle.redo_threads.proofs.ScriptBytes.{flushed_within, last_within}
use Rattle.redo_threads.specs.Archiving.{Archives, end_about, IsFullIn}

module _ {L D A F : Type 0} {gives : A → Call → A → Type 0} (log_seen : L → Seen) (log_gives : L → Call → L → Type 0)
    (data_seen : D → Seen) (data_gives : D → Call → D → Type 0) (seen : A → Seen) (stands : F → List Given → Type 0)
    (about : About L D)
    (starts actors : List (Actor F)) (seats : List (Seat (Slot L D) (View L D))) (closed : Closed L D)
    (left : LeavesHeard log_seen log_gives data_seen data_gives stands about.opened.value about.script.value
    about.plan starts actors seats closed)
    (place : ℕ) (seat : Seat (Slot L D) (View L D)) (sits : get_elem? seats place ≡ maybe.some seat) (n : ℕ) (r : ReaderState)
    (at : get_elem? (views_of actors) n ≡ maybe.some (model.Reader r))
    (only : (m : ℕ) (x : ReaderState) → get_elem? (views_of actors) m ≡ maybe.some (model.Reader x) → archives x ≡ true → m ≡ n)
    (before part : Part A) (S : Archives seen gives about before seat.me.0 r part)
    (start : before.start ≡ about.opened.value.start) (failed : part.failed ≡ closed.lost) where
  abbrev E : LogSide
  E = run_log_side log_seen data_seen left.by.run

  abbrev base : ℕ
  base = left.by.run.setup.base

  abbrev log : List Entry
  log = left.by.from.runs.running.log_ghost.log

  abbrev flushed : ℕ
  flushed = slice_index left.by.last.words.words flushed_at

  its_start : part.start ≡ lsn base
  its_start = S.same.start ∙ start ∙ sym left.by.is_run.start

  -- the newest mark is flushed
  up_to : part.marks.mark ≤ flushed
  up_to =
      let R = left.by.from.runs in
      let has : ArchiverHas left.by.run.setup R.running.shared log r = R.running.both.archiver n r at S.pace.kind in
      let below = has.below in
      let mark = S.pace.mark in
      let same = flushed_word log_seen data_seen left.by.run left.by.last (views_of actors) R in
      let is_data : IsDataLsn flushed = flushed_place log_seen data_seen left.by.run left.by.last (views_of actors) R in
      let low = is_data.0 in
      omega arith

  asked_up : part.marks.asked ≤ flushed
  asked_up = by part.failed refl
    where
      by : (f : Option DevError) → part.failed ≡ f → part.marks.asked ≤ flushed
      by None is = let same = S.live is in let up = up_to in omega arith
      by (Some fault) is =
          let low = S.over (λ none. let z : Some fault ≡ None = sym is ∙ none in absurd (cc)) in
          let loaded = left.loaded n r at in omega arith

  -- what is of the run is a full block of its groups
  full_in : (wholes : List Whole) → AreWholesOf log wholes → (blocks : List Block)
      → AllByRecursion (IsOfRun E base log) blocks → AllByRecursion (IsFullIn part.start wholes) blocks
  full_in wholes are [] all = tt
  full_in wholes are (b ∷ bs) all =
      let k = all.0 in
      let f = front_of k.early k.late wholes (subst (λ (l : List Entry). AreWholesOf l wholes) k.grown are) in
      let found = k.block f.early f.of_log in (
        record {
          early = f.early;
          late = f.more;
          are = f.are;
          full = subst (λ (s : ℕ). IsFullBlock s f.early b.place b.bytes) (sym its_start)
              (record { m = found.0; boundary = found.1; enough = found.2.full; block = found.2.block });
        },
        full_in wholes are bs all.1,
      )

  come : HasCome log_seen data_seen seen gives left.by.run left.by.last (views_of actors) left.by.from.runs before part
  come = record {
    beside = record {
      seat = n;
      archiver = r;
      at = at;
      only = only;
      start = its_start;
      limit = end_about about;
      all = last_within log_seen data_seen left.by.run left.by.last (views_of actors) left.by.from.runs about.opened.value
          about.script.value about.plan left.by.is_run;
      pace = record {
        kind = S.pace.kind;
        start = S.pace.start;
        mark = S.pace.mark;
        counted = S.pace.counted;
        lost = S.pace.lost;
        round = S.pace.round;
        loaded = left.loaded n r at;
        up_to = up_to;
        within = flushed_within log_seen data_seen left.by.run left.by.last (views_of actors) left.by.from.runs
            about.opened.value about.script.value about.plan left.by.is_run;
        small = S.pace.small;
        room = S.pace.room;
      };
      asked = record { later = S.later; most = asked_up };
    };
    same = S.same;
    archives = λ told pages begun wholes are. S.archives pages begun wholes
        (subst (λ (s : ℕ). IsRunOf s wholes) (sym its_start)
        (run_of_log log base left.by.from.runs.running.shared.sn wholes
        left.by.from.runs.running.both.logged.global.tiled.tiles are))
        (full_in wholes are (heard_of seat.me.0).blocks (left.blocks told place seat sits));
  }

  -- SO THE RUN LEAVES IT.
  pub left_archived : HasArchived log_seen data_seen seen gives about.opened.value about.script.value closed
      (views_of actors) before part
  left_archived = has_archived log_seen log_gives data_seen data_gives seen stands about.opened.value about.script.value
      about.plan starts actors (done_with closed) left.by before part come failed
