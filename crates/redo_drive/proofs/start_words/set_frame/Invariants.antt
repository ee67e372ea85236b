use Rattle.redo_drive.proofs.StartWordsFrames.{IsFramedUpTo}
use Rattle.redo_drive.proofs.start_words.set_frame.Given as goal

abbrev pub invariant-loop-number : goal.invariant-loop-number
invariant-loop-number l = IsFramedUpTo l.initial.words l.words l.page l.page_size l.user l.number
