use Rattle.redo_drive.proofs.StartWordsStore.{AreSetUpTo}
use Rattle.redo_drive.proofs.start_words.start_words.Given as goal

abbrev pub invariant-loop-page : goal.invariant-loop-page
invariant-loop-page l = AreSetUpTo l.shape l.start l.pages l.page l.words
