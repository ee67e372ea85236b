use Rattle.std.proofs.Common.{◌≡◌}
use Rattle.redo_useractor.specs.Program.{program_lines}
use Rattle.redo_useractor.proofs.making.lines_of.Given as goal

abbrev pub invariant-loop-mode : goal.invariant-loop-mode
invariant-loop-mode l = l.made.items ≡ program_lines l.log_only l.shape l.yielded
