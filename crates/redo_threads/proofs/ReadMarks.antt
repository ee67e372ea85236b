-- What reads give of the devices that a run leaves, archived or not, of which no call answered an error: the log ends at WRITE, and its
-- newest checkpoint is CKPT.
use Rattle.std.proofs.Common.{List, None, Option, Some, ap, arith, subst, sym, ⊎_elim, ℕ, ◌∙◌, ◌≡◌}
use Rattle.std.specs.Prelude.{IfSome}
use lib.ListN.{get_elem?}
use mathlib.Core.Option.{some}
use native.Mathlib.Decide.{dec_le}
use Rattle.model_base.specs.{run_shape}
use Rattle.model_base.specs.declared.shape.Shape.{Shape}
use Rattle.model_core.specs.{Given, lsn, HoldsNothing, LogSide}
use Rattle.model_core.specs.States as model
use Rattle.model_device.specs.{Disk}
use Rattle.model_log.specs.declared.group.Whole.{Whole}
use Rattle.model_parts.specs.{FitsStore, IsLive}
use Rattle.model_report.proofs.Groups.{have-lines}
use Rattle.model_report.specs.{wholes_of}
use Rattle.model_report.specs.declared.entry.Marks.{Marks}
use Rattle.model_running.proofs.Finished.{marks_same}
use Rattle.model_running.proofs.FinishedStore.{stands_for_run}
use Rattle.model_running.specs.{IsOfScript, word_marks}
use Rattle.model_script.specs.declared.script.ScriptLine.{ScriptLine}
use Rattle.model_theorem.proofs.Closing.{few-blocks, some-blocks}
use Rattle.model_theorem.proofs.Fitting.{good-from}
use Rattle.model_theorem.proofs.Start.{start-given}
use Rattle.model_theorem.specs.{opened_as}
use Rattle.redo_disk.specs.{Call, Seen}
use Rattle.redo_drive.proofs.LeftRun.{if_told, met_error, where_started}
use Rattle.redo_drive.proofs.ReadMarks.{read_to_marks}
use Rattle.redo_drive.proofs.RestMarks.{ckpt_is_newest, write_is_written}
use Rattle.redo_drive.specs.Drive.{ReadsToMarks}
use Rattle.redo_drive.specs.Leaving.{LeavesWith}
use Rattle.redo_drive.specs.{RunOf, run_data_side, run_log_side, core_of, MayBegin, views_of}
use Rattle.redo_drive.specs.declared.actor.Actor.{Actor}
use Rattle.redo_drive.specs.declared.drive.Driven.{Driven}
use Rattle.redo_drive.specs.declared.plan.Plan.{Plan}
use Rattle.redo_logdev.specs.{DiskHolds}
use Rattle.redo_logdev.specs.Part as log
use Rattle.redo_store.specs.declared.opened.Opened.{Opened}

-- of a device that tells
as_told : (tells : Option Disk) (Is : Disk → Type 0) (disk : Disk) → tells ≡ Some disk → IfSome tells Is → Is disk
as_told tells Is disk told is = subst (λ (o : Option Disk). IfSome o Is) told is

module _ {L D R : Type 0} (log_seen : L → Seen) (log_gives : L → Call → L → Type 0) (data_seen : D → Seen)
    (data_gives : D → Call → D → Type 0) (stands : R → List Given → Type 0) (opened : Opened L D)
    (script : List ScriptLine) (plan : Plan) (starts actors : List (Actor R)) (driven : Driven L D)
    (by : LeavesWith log_seen log_gives data_seen data_gives stands opened script plan starts actors
    driven.closed) (may : MayBegin opened script plan.log_only) where
  abbrev run : RunOf L D
  run = by.run

  abbrev logs : LogSide
  logs = run_log_side log_seen data_seen run

  -- FAILED is 0 where no call answered an error
  no_code : driven.closed.lost ≡ None → driven.closed.log.failed ≡ None → driven.closed.store.failed ≡ None
      → by.from.runs.running.shared.failed ≡ 0
  no_code kept log_live data_live = elim (dec_le 1 by.from.runs.running.shared.failed) [
    | yes positive ↦ ⊎_elim (λ failed. absurd (failed log_live))
        (⊎_elim (λ failed. absurd (failed data_live)) (λ lost. absurd (lost kept)))
        (met_error log_seen log_gives data_seen data_gives stands opened script plan starts actors driven by
        (by.from.runs.running.shared.failed, by.from.runs.running.both.cause positive))
    | no none ↦ omega arith
  ]

  -- WHERE NO ACTOR HOLDS ANYTHING what reads give ends at WRITE.
  pub reads_marks : driven.closed.lost ≡ None
      → ((i : ℕ) (a : model.Actor) → get_elem? (views_of actors) i ≡ some a → HoldsNothing a)
      → ReadsToMarks log_seen data_seen opened script driven.closed
  unfolding stands_for_run
  reads_marks kept rest log_live data_live reading as_read =
      where_started log_seen log_gives data_seen data_gives stands opened script plan starts actors driven by reading
      as_read _
      (λ log_disk data_disk start begun. if_told (log_seen driven.closed.log.dev).tells _ (λ log_now log_told.
      if_told (data_seen driven.closed.store.dev).tells _ (λ data_now data_told left is.
      let R = by.from.runs.running in
      let part : log.Part L = by.last.log in
      let sound = no_code kept log_live data_live in
      let live : part.failed ≡ None = ap (λ (z : log.Part L). z.failed) (sym by.log) ∙ log_live in
      let given = start-given reading script log_disk data_disk start in
      let of_script = subst (IsOfScript run.setup script) as_read.shape by.is_run.of_script in
      let stands = stands_for_run logs (run_data_side log_seen data_seen run) run.setup script (opened_as reading)
      (core_of log_seen data_seen run by.last (views_of actors)) R of_script (by.is_run.start ∙ as_read.start) in
      let wholes : List Whole = wholes_of script reading.shape.space stands.run.entries in
      let shape : ◌≡◌ {A = Shape} part.shape (run_shape reading.shape) = by.log_shape ∙ may.runnable.log_shape ∙ as_read.shape in
      let here : DiskHolds part.shape (lsn run.setup.base) wholes part.marks part.tails part.failed log_now =
      as_told (log_seen part.dev).tells
      (DiskHolds part.shape (lsn run.setup.base) wholes part.marks part.tails part.failed) log_now
      (ap (λ (z : log.Part L). (log_seen z.dev).tells) (sym by.log) ∙ log_told)
      (R.both.logged.global.part.holds.groups begun.log wholes stands.groups) in
      let legal = stands.is_run.legal in
      let good = good-from (run_shape reading.shape) script stands.run.entries given.fits
      (have-lines script reading.shape.space stands.run.start stands.run.marks stands.run.entries legal) in
      let small = stands.small in
      let fits : FitsStore (run_shape reading.shape) wholes part.marks =
      record {
        good = good;
        small = omega arith;
        some_blocks = some-blocks (run_shape reading.shape) given.shape;
        few_blocks = few-blocks (run_shape reading.shape) given.shape;
      } in
      let on_shape : IsLive (run_shape reading.shape) (lsn run.setup.base) wholes part.marks part.tails log_now =
      subst (λ (z : Shape). IsLive z (lsn run.setup.base) wholes part.marks part.tails log_now) shape
      (record { holds = here.holds; is_written = here.live live }) in
      let read = read_to_marks (run_shape reading.shape) (lsn run.setup.base) wholes part.marks part.tails log_now data_now.reads
      left fits on_shape (R.both.logged.global.part.holds.all_asked live) is in
      let marks : ◌≡◌ {A = Marks} (word_marks R.shared) driven.closed.marks =
      sym (by.marks ∙ marks_same by.last.words.words R.shared R.flat_is) in (
        read.0 ∙ write_is_written log_seen data_seen run by.last (views_of actors) by.from.runs rest sound
            ∙ ap (λ (z : Marks). z.write) marks,
        read.1 ∙ ckpt_is_newest log_seen data_seen run by.last (views_of actors) by.from.runs rest sound
            ∙ ap (λ (z : Marks). z.ckpt) marks,
      ))))
