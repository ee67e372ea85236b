use Rattle.redo_drive.proofs.StartWordsNames.{named_wrote}
use Rattle.redo_drive.proofs.start_words.set.Goals as goal

pub returns-clause-named : goal.returns-clause-named
returns-clause-named c = λ m named. named_wrote _ _ m c.args.word c.args.number named c.requires c.play.ensures.layout c.play.ensures.words
