-- What a run leaves of its archive.
use Rattle.std.proofs.Common.{Bool, List, None, Option, Some, [], ap, arith, refl, slice_index, subst, sym, true, ⊎_elim, ℕ, ◌+◌, ◌∙◌, ◌≡◌, ◌≢◌, ◌≤◌}
use lib.ListN.{get_elem?}
use mathlib.Core.Option.{some, some-injective}
use Rattle.model_core.specs.{archive_device_code, archives, Given, HasLost, lsn, ReaderState, SharedWords, LogSide}
use Rattle.model_core.specs.States as model
use Rattle.model_device.specs.{Disk}
use Rattle.model_log.specs.{block_of, IsRunOf}
use Rattle.model_log.specs.declared.layout.TheConstants.{BLOCK_HEADER}
use Rattle.model_log.specs.declared.group.Whole.{Whole}
use Rattle.model_logcore.specs.{LogGhost}
use Rattle.model_report.specs.{wholes_of}
use Rattle.model_report.specs.declared.entry.Entry.{Entry}
use Rattle.model_report.specs.declared.entry.Marks.{Marks}
use Rattle.model_running.proofs.Archiving.{losing_at}
use Rattle.model_running.proofs.Finished.{finished_groups, marks_same}
use Rattle.model_running.proofs.Groups.{run_of_log}
use Rattle.model_running.specs.{word_marks}
use Rattle.model_running.specs.Histories.{AreWholesOf}
use Rattle.model_running.specs.ReadHalf.{ArchiverHas, HasByKind, ReadHalf, ReaderHas}
use Rattle.model_script.specs.declared.script.ScriptLine.{ScriptLine}
use Rattle.redo_archive.specs.Part.{Part, PartArchives}
use Rattle.redo_archiver.specs.{append_code, IsToFinish}
use Rattle.redo_disk.specs.{Call, Seen}
use Rattle.redo_disk.specs.declared.error.DevError.{DevError}
use Rattle.redo_disk.specs.declared.error.DevError.TheVariants.{Failed, NoMemory}
use Rattle.redo_drive.proofs.ArchiveTurns.{flushed_place, one_reader}
use Rattle.redo_drive.proofs.LeftRun.{if_told, where_started}
use Rattle.redo_drive.specs.Archiving.{ArchivesRun, HasArchived, AsksUpTo, HasCome, StandsBeside}
use Rattle.redo_drive.specs.Beginning.{HaveBegun}
use Rattle.redo_drive.specs.Asking.{code_of}
use Rattle.redo_drive.specs.Leaving.{LeavesWith}
use Rattle.redo_drive.specs.Running.{RunOf, run_log_side, RunsWith}
use Rattle.redo_drive.specs.History.{views_of}
use Rattle.redo_drive.specs.declared.actor.Actor.{Actor}
use Rattle.redo_drive.specs.declared.device.Device.TheVariants.{Data, Log}
use Rattle.redo_drive.specs.declared.drive.Driven.{Driven}
use Rattle.redo_drive.specs.declared.parts.Parts.{Parts}
use Rattle.redo_drive.specs.declared.plan.Plan.{Plan}
use Rattle.redo_logdev.specs.{PartHolds}
use Rattle.redo_logdev.specs.Part as log
use Rattle.redo_store.specs.declared.opened.Opened.{Opened}

-- an append has code 4 only by a failure of the device
by_device : (failed : Option DevError) → append_code failed ≡ archive_device_code → failed ≡ Some Failed
by_device None is = absurd (cc)
by_device (Some Failed) is = refl
by_device (Some NoMemory) is = absurd (cc)

-- AN APPEND OF AN ARCHIVER HAS FAILED as its archive has.
module _ {L D A : Type 0} {archive : Bool} (log_seen : L → Seen) (data_seen : D → Seen) (seen : A → Seen) (run : RunOf L D)
    (parts : Parts L D) (actors : List model.Actor) (R : RunsWith log_seen data_seen run archive parts actors)
    (part : Part A) (S : StandsBeside seen run.setup parts.words.words actors part) where
  pub lost_with : (code : ℕ) → HasLost actors code → code ≡ append_code part.failed
  lost_with code lost =
      let r : ReaderState = lost.archiver in
      let in_run = R.running.both.in_run lost.seat (model.Reader r) lost.at in
      let is = lost.lost in
      let some_code = lost.some_code in
      let losing = losing_at r r.step in_run.lost (omega arith) in
      let here = S.only lost.seat r lost.at losing.archiver in
      let mine : ◌≡◌ {A = ReaderState} S.archiver r = one_reader S.archiver r
      (some-injective (model.Reader S.archiver) (model.Reader r) (sym S.at ∙ ap (get_elem? actors) (sym here) ∙ lost.at)) in
      sym is ∙ ap (λ (x : ReaderState). x.lost) (sym mine) ∙ S.pace.lost

module _ {L D A R : Type 0} {gives : A → Call → A → Type 0} (log_seen : L → Seen)
    (log_gives : L → Call → L → Type 0) (data_seen : D → Seen) (data_gives : D → Call → D → Type 0) (seen : A → Seen)
    (stands : R → List Given → Type 0) (opened : Opened L D) (script : List ScriptLine) (plan : Plan)
    (starts actors : List (Actor R)) (driven : Driven L D)
    (by : LeavesWith log_seen log_gives data_seen data_gives stands opened script plan starts actors
    driven.closed) (before after : Part A)
    (C : HasCome log_seen data_seen seen gives by.run by.last (views_of actors) by.from.runs before after)
    (failed : after.failed ≡ driven.closed.lost) where
  abbrev run : RunOf L D
  run = by.run

  abbrev logs : LogSide
  logs = run_log_side log_seen data_seen run

  abbrev m : SharedWords
  m = by.from.runs.running.shared

  abbrev g : LogGhost
  g = by.from.runs.running.log_ghost

  abbrev S : StandsBeside seen run.setup by.last.words.words (views_of actors) after
  S = C.beside

  marks_are : ◌≡◌ {A = Marks} (word_marks m) driven.closed.marks
  marks_are = sym (by.marks ∙ marks_same by.last.words.words m by.from.runs.running.flat_is)

  abbrev wholes : List Whole
  wholes = wholes_of script opened.shape.space driven.closed.history

  are_wholes : AreWholesOf g.log wholes
  are_wholes = subst (λ (z : List Entry). AreWholesOf g.log (wholes_of script opened.shape.space z)) (sym by.history)
      (finished_groups logs run.setup m g by.last.log (views_of actors) by.from.runs.running.both.logged script opened.shape
      by.is_run.of_script)

  flushed_same : driven.closed.marks.flushed ≡ slice_index by.last.words.words 3
  flushed_same = ap (λ (z : Marks). z.flushed) by.marks

  -- FAILED has code 4 by the archive's device alone
  code : driven.closed.code ≡ archive_device_code → after.failed ≡ Some Failed
  code is =
      let word : driven.closed.code ≡ m.failed = by.code ∙ ap (λ (ws : List ℕ). slice_index ws 6) by.from.runs.running.flat_is in
      let four : m.failed ≡ 4 = sym word ∙ is in
      ⊎_elim (λ c. let e = c.code_is in not_log c.fault (sym e ∙ four))
      (⊎_elim (λ c. let e = c.code_is in not_data c.fault (sym e ∙ four))
      (λ lost. by_device after.failed
      (sym (lost_with log_seen data_seen seen run by.last (views_of actors) by.from.runs after S m.failed lost) ∙ four)))
      (by.from.runs.running.both.cause (omega arith))
    where
      not_log : (fault : DevError) → code_of Log fault ≡ 4 → after.failed ≡ Some Failed
      not_log Failed e = absurd (cc)
      not_log NoMemory e = absurd (cc)

      not_data : (fault : DevError) → code_of Data fault ≡ 4 → after.failed ≡ Some Failed
      not_data Failed e = absurd (cc)
      not_data NoMemory e = absurd (cc)

  -- the archiver among the actors is the one beside which the archive stands
  reached : (seat : ℕ) (r : ReaderState) → get_elem? (views_of actors) seat ≡ some (model.Reader r) → archives r ≡ true
      → after.marks.mark ≡ r.place + BLOCK_HEADER
  reached seat r at archiving =
      let here = S.only seat r at archiving in
      let mine : ◌≡◌ {A = ReaderState} S.archiver r = one_reader S.archiver r
      (some-injective (model.Reader S.archiver) (model.Reader r) (sym S.at ∙ ap (get_elem? (views_of actors)) (sym here) ∙ at)) in
      subst (λ (x : ReaderState). after.marks.mark ≡ x.place + BLOCK_HEADER) mine S.pace.mark

  to_finish : IsToFinish seen driven.closed.marks.flushed after
  to_finish = subst (λ (n : ℕ). IsToFinish seen n after) (sym flushed_same) (
      let pace = S.pace in
      let up = pace.within in
      record {
        start = pace.start;
        place = flushed_place log_seen data_seen run by.last (views_of actors) by.from.runs;
        small = (let small = pace.small in omega arith);
        up_to = pace.up_to;
        counted = λ less. pace.counted;
        room = (let room = pace.room in omega arith);
      })

  module _ (begun : HaveBegun log_seen data_seen run) (told : (log_seen by.last.log.dev).tells ≢ None) where
    half : ReadHalf logs run.setup m g.log by.last.log (views_of actors)
    half = by.from.runs.running.both.reading (begun.log, told)

    abbrev r : ReaderState
    r = S.archiver

    has : ReaderHas run.setup m g.log S.seat r
    has = half.each S.seat (model.Reader r) S.at

    -- no checkpoint that was asked for is above the archiver's block
    under : by.last.log.marks.asked ≤ block_of after.marks.mark
    under =
        let H = has in
        let A : ArchiverHas run.setup m g.log r = subst (λ (b : Bool). HasByKind run.setup m g.log b r) S.pace.kind H.has in
        let low = half.asked r.number H.first H.last in
        let word = H.word in
        let up = H.up in
        let mark = S.pace.mark in
        let aligned = A.aligned in
        omega arith

    its : PartHolds log_seen opened.start wholes driven.closed.log
    its = subst (λ (s : ℕ). PartHolds log_seen s wholes driven.closed.log) by.is_run.start
        (subst (λ (p : log.Part L). PartHolds log_seen (lsn run.setup.base) wholes p) (sym by.log)
        (by.from.runs.running.both.logged.global.part.holds.groups begun.log wholes are_wholes))

    archives_run : PartArchives seen opened.pages [] before → ArchivesRun log_seen seen opened script driven.closed after
    archives_run begun_so = let part = by.from.runs.running.both.logged.global.part in record {
      archives = C.archives (begun.log, told) opened.pages begun_so wholes are_wholes;
      made = subst (λ (z : Marks). z.ckpt ≤ block_of after.marks.mark) marks_are
          (let low = under in let ckpt = part.ckpt_part in let asked = part.ckpt_asked in omega arith);
      asked = subst (λ (z : log.Part L). z.marks.asked ≤ block_of after.marks.mark) (sym by.log) under;
      rest = record {
        run = subst (λ (s : ℕ). IsRunOf s wholes) by.is_run.start
            (run_of_log g.log run.setup.base m.sn wholes by.from.runs.running.both.logged.global.tiled.tiles are_wholes);
        holds = its;
        ckpt = subst (λ (z : log.Part L). z.marks.ckpt ≤ block_of after.marks.mark) (sym by.log)
            (let low = under in let asked = part.ckpt_asked in omega arith);
        stable = subst (λ (z : log.Part L). driven.closed.marks.flushed ≤ z.marks.stable) (sym by.log)
            (subst (λ (z : Marks). z.flushed ≤ by.last.log.marks.stable) marks_are part.flushed_stable);
      };
    }

  -- SO THE RUN LEAVES IT.
  pub has_archived : HasArchived log_seen data_seen seen gives opened script driven.closed (views_of actors) before after
  has_archived = record {
    same = C.same;
    failed = failed;
    code = code;
    reached = reached;
    flushed = (let e = flushed_same in let up = S.pace.up_to in omega arith);
    asked = subst (λ (n : ℕ). AsksUpTo n after) (sym flushed_same) S.asked;
    to_finish = to_finish;
    run = λ begun_so reading as_read. where_started log_seen log_gives data_seen data_gives stands opened script plan
        starts actors driven by reading as_read _ (λ log_disk data_disk start begun.
        if_told (log_seen driven.closed.log.dev).tells _ (λ log_now log_told. archives_run begun (tells log_now log_told) begun_so));
  }
    where
      tells : (disk : Disk) → (log_seen driven.closed.log.dev).tells ≡ Some disk → (log_seen by.last.log.dev).tells ≢ None
      tells disk told none =
          let z : (log_seen by.last.log.dev).tells ≡ Some disk =
          ap (λ (z : log.Part L). (log_seen z.dev).tells) (sym by.log) ∙ told in
          let bad : None ≡ Some disk = sym none ∙ z in absurd (cc)
