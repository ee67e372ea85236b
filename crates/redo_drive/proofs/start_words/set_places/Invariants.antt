use Rattle.redo_drive.proofs.StartWordsPlaces.{HavePlacesUpTo}
use Rattle.redo_drive.proofs.start_words.set_places.Given as goal

abbrev pub invariant-loop-reader : goal.invariant-loop-reader
invariant-loop-reader l = HavePlacesUpTo l.initial.words l.words l.start l.reader
