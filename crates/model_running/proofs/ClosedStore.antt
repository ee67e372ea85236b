-- At any moment a running store's devices hold the run that it stands for.
use Rattle.std.proofs.Common.{List, arith, subst, sym, ℕ, ◌∙◌, ◌≡◌}
use Rattle.model_base.specs.declared.shape.Shape.{Shape}
use Rattle.model_core.specs.{DataSide, LogSide, Core, lsn, Setup}
use Rattle.model_device.specs.{Disk}
use Rattle.model_running.specs.Finished.{DataTells, LogTells, StandsForRun, FinishedPages}
use Rattle.model_report.specs.{wholes_of}
use Rattle.model_log.specs.{start_after}
use Rattle.model_parts.specs.{LogHolds}
use Rattle.model_log.specs.declared.group.Whole.{Whole}
use Rattle.model_theorem.specs.{AreGiven, DataHolds, IsHeld, Opened}
use Rattle.model_script.specs.declared.script.ScriptLine.{ScriptLine}

module _ (D : LogSide) (E : DataSide) (c : Setup) (script : List ScriptLine) (opened : Opened) (number : ℕ) (log_disk data_disk : Disk) (s : Core D E) (start : lsn c.base ≡ start_after opened.end) (given : AreGiven script opened)
    (log_tells : LogTells D c opened.shape number s.log_part log_disk) (data_tells : DataTells E opened s.data_part data_disk) where
  -- what both parts hold of the run both devices hold
  pub held_run : (stands : StandsForRun D E c script opened s) → FinishedPages D E script opened stands.run s
      → IsHeld (record {
        script = script;
        opened = opened;
        number = number;
        run = stands.run;
        log_disk = log_disk;
        data_disk = data_disk;
      })
  held_run stands pages =
      let shape : Shape = opened.shape in
      let wholes : List Whole = wholes_of script shape.space stands.run.entries in
      let same : lsn c.base ≡ stands.run.start = start ∙ sym stands.is_run.start in
      let stable : D.stable s.log_part ≡ log_tells.marks.stable = sym log_tells.stable in
      let asked : D.asked s.log_part ≡ log_tells.marks.asked = sym log_tells.asked in
      let kept : DataHolds shape opened.pages wholes (D.stable s.log_part) (D.asked s.log_part) data_disk =
      data_tells.holds pages.kept_page pages.unfinished wholes (D.stable s.log_part) (D.asked s.log_part) pages.holds pages.apart pages.prefixes in
      record {
        given = given;
        is_run = stands.is_run;
        log_marks = log_tells.marks;
        marks = record {
          flushed = (let a = stands.flushed in omega arith);
          ckpt = (let a = stands.ckpt in let b = log_tells.ckpt in omega arith);
          small = (let a = stands.small in let b = log_tells.given in omega arith);
        };
        number_kept = log_tells.number_kept stands.log stands.holds;
        log_holds = subst (λ (x : ℕ). LogHolds shape x wholes log_tells.marks log_disk) same (log_tells.holds stands.log wholes stands.holds stands.groups);
        data_holds = subst (λ (x : ℕ). DataHolds shape opened.pages wholes x log_tells.marks.asked data_disk) stable
            (subst (λ (x : ℕ). DataHolds shape opened.pages wholes (D.stable s.log_part) x data_disk) asked kept);
      }
