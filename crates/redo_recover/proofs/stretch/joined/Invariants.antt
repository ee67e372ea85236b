use Rattle.std.proofs.Common.{ℕ, List, All}
use Rattle.model_base.specs.declared.shape.Shape.{Shape}
use Rattle.redo_recover.specs.Runs.{HasRunGroups, IsFrontRun}
use Rattle.redo_recover.proofs.stretch.joined.Given as goal

abbrev pub invariant-loop-run : goal.invariant-loop-run
invariant-loop-run l = (shape : Shape) (bytes : List ℕ) → All (HasRunGroups shape bytes) l.yielded → IsFrontRun shape bytes l.start l.all
