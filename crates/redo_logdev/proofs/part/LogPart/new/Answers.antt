use Rattle.std.proofs.Common.{[], None}
use Rattle.model_parts.specs.{first_marks, first_tails, IsFresh}
use Rattle.redo_logdev.specs.Holding.{DiskHolds}
use Rattle.redo_disk.proofs.Told.{known-as}
use Rattle.redo_logdev.proofs.Parts.{fresh-part}
use Rattle.redo_logdev.proofs.part.LogPart.new.Goals as goal

pub returns-in-Ok-clause-holds : goal.returns-in-Ok-clause-holds
returns-in-Ok-clause-holds g c known =
    let shape = c.args.shape.now in
    known-as _ (IsFresh shape c.args.start c.args.number) (DiskHolds shape c.args.start [] (first_marks c.args.start c.args.number) (first_tails c.args.start) None)
    (λ a fresh. fresh-part shape c.args.start c.args.number a c.requires.many_blocks c.requires.few_blocks c.requires.place c.requires.first fresh) known
