use Rattle.std.proofs.Common.{arith, refl}
use Rattle.redo_drive.proofs.StartWordsPacked.{none_there, some_in}
use Rattle.redo_drive.proofs.start_words.frame_word.Goals as goal

pub returns-then-from-to : goal.returns-then-from-to
returns-then-from-to c = some_in c.args.user.now c.args.number _ c.max-from.result c.min-to.result c.packed.result _ refl c.max-from.ensures c.min-to.ensures c.if-from-to.true refl c.packed.ensures

pub returns-else-from-to : goal.returns-else-from-to
returns-else-from-to c = none_there c.args.user.now c.args.number (omega (arith, c.max-from.ensures, c.min-to.ensures, c.if-from-to.false))
