use Rattle.redo_rule.proofs.handing.hand_in.Given as goal
use Rattle.redo_rule.specs.HandIn.{line_about}

abbrev pub ghosts-hand_as : goal.ghosts-hand_as
ghosts-hand_as g a = record { line = line_about a.table.now.key a.line.now }
