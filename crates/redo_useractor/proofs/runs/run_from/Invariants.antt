use Rattle.redo_useractor.proofs.WholeWords.{RunOf}
use Rattle.redo_useractor.proofs.runs.run_from.Given as goal

abbrev pub invariant-loop-k : goal.invariant-loop-k
invariant-loop-k l = RunOf l.user_bytes l.page l.recs l.k l.number l.word l.end
