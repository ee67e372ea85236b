use Rattle.std.proofs.Common.{◌≡◌, length}
use Rattle.model_script.specs.{script_from}
use Rattle.redo_script.specs.Progress.{after_lines}
use Rattle.redo_script.proofs.parsing.parse.Given as goal

abbrev pub invariant-loop-number : goal.invariant-loop-number
invariant-loop-number l = after_lines l.script.items (script_from l.lines) ≡ script_from l.initial.lines

abbrev pub decreases-loop-number : goal.decreases-loop-number
decreases-loop-number l = length l.lines
