use Rattle.std.proofs.Common.{◌≡◌, ◌≤◌, length, take}
use Rattle.model_report.specs.{trimmed}
use Rattle.redo_report.proofs.pages.trimmed.Given as goal

abbrev pub invariant-loop-used : goal.invariant-loop-used
invariant-loop-used l = (l.used ≤ length l.bytes) × (trimmed (take l.used l.bytes) ≡ trimmed l.bytes)

abbrev pub decreases-loop-used : goal.decreases-loop-used
decreases-loop-used l = l.used
