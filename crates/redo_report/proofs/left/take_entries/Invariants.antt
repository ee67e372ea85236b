use Rattle.std.proofs.Common.{List, take}
use Rattle.model_script.specs.declared.script.ScriptLine.{ScriptLine}
use Rattle.redo_report.specs.Left.{CountsLeft, CountsLines}
use Rattle.redo_report.proofs.left.take_entries.Given as goal

abbrev pub invariant-loop-entry : goal.invariant-loop-entry
invariant-loop-entry l = (lines : List ScriptLine) → CountsLines l.initial.counts lines → CountsLeft l.counts lines (take l.entry-index l.entries)
