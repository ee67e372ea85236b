use Rattle.std.proofs.Common.{arith}
use Rattle.model_base.proofs.ShapeLimits.{whole_sectors}
use Rattle.redo_useractor.proofs.Lines.{line_is}
use Rattle.redo_useractor.proofs.Texts.{group_writes}
use Rattle.redo_useractor.proofs.making.line_of.Goals as goal

pub invariant_of-result : goal.invariant_of-result
invariant_of-result c = (whole_sectors c.args.shape.now c.requires.limits, group_writes c.args.shape.now c.args.group c.requires.line.fits, λ q first end. let none = c.none.ensures in absurd (omega arith))

pub returns-clause-ok : goal.returns-clause-ok
returns-clause-ok c =
    line_is c.args.log_only c.args.shape.now c.args.mode c.args.group c.in-Ok.text c.in-Ok-pages_of.pages.items
    c.in-Ok.ensures c.in-Ok-pages_of.ensures
