-- The user's lines so far, and those that are left, are all of them.
use Rattle.std.proofs.Common.{drop, ◌++◌, ◌≡◌}
use Rattle.redo_drive.specs.Setups.{user_lines}
use Rattle.redo_drive.proofs.users.lines_of.Given as goal

abbrev pub invariant-loop-line : goal.invariant-loop-line
invariant-loop-line l = l.lines.items ++ user_lines l.space (drop l.line-index l.script) l.user ≡ user_lines l.space l.script l.user
