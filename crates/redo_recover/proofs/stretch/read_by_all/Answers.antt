use Rattle.std.proofs.Common.{ℕ, List, All}
use Rattle.std.proofs.lemmas.Result.{IfOk-weaker}
use Rattle.model_base.specs.declared.shape.Shape.{Shape}
use Rattle.redo_recover.specs.Runs.{HasRunGroups, IsFrontRun}
use Rattle.redo_recover.specs.declared.run.Run.{Run}
use Rattle.redo_recover.proofs.stretch.read_by_all.Goals as goal

pub returns : goal.returns
returns g c =
    IfOk-weaker c.joined.result
    (λ (all : Run). (shape : Shape) (bytes : List ℕ) → All (HasRunGroups shape bytes) c.in_ok-runs.runs.items → IsFrontRun shape bytes c.args.start all)
    (IsFrontRun c.args.shape.now c.args.bytes.now c.args.start) (λ all is. is c.args.shape.now c.args.bytes.now c.in_ok-runs.ensures) c.joined.ensures
