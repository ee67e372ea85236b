use Rattle.redo_rule.proofs.reading.begin.Given as goal

abbrev pub ghosts-begin_as : goal.ghosts-begin_as
ghosts-begin_as g a = record { page = a.page }
