use Rattle.std.proofs.Common.{◌≤◌, ℕ, All}
use Rattle.model_base.specs.declared.limits.TheConstants.{START_LSN}
use Rattle.redo_recover.proofs.ahead.starts_of.Given as goal

abbrev pub invariant-loop-number : goal.invariant-loop-number
invariant-loop-number l = All (λ (start : ℕ). START_LSN ≤ start) l.starts.items
