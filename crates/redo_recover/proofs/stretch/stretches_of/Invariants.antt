use Rattle.std.proofs.Common.{◌≤◌, All}
use Rattle.redo_recover.specs.declared.stretch.Stretch.{Stretch}
use Rattle.redo_recover.proofs.stretch.stretches_of.Given as goal

abbrev pub invariant-loop-number : goal.invariant-loop-number
invariant-loop-number l = (l.from ≤ l.data_length) × All (λ (stretch : Stretch). stretch.from ≤ l.data_length) l.stretches.items
