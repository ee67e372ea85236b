use Rattle.std.proofs.Common.{take}
use Rattle.redo_report.specs.Left.{CountsLines}
use Rattle.redo_report.proofs.left.count_lines.Given as goal

abbrev pub invariant-loop-line : goal.invariant-loop-line
invariant-loop-line l = CountsLines l.counts (take l.line-index l.script)
