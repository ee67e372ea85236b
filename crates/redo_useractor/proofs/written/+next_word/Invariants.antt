use Rattle.std.proofs.Common.{length}
use Rattle.redo_useractor.proofs.written.+next_word.Given as goal

abbrev pub decreases-next_word : goal.decreases-next_word
decreases-next_word l = length l.recs.now
