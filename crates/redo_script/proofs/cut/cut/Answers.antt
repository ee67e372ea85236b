use Rattle.std.proofs.Common.{sym}
use Rattle.redo_script.proofs.Cutting.{cut_at, slice_split-cut_at, slice_split-cut_none}
use Rattle.redo_script.proofs.cut.cut.Goals as goal

pub returns-in-None-clause-parts : goal.returns-in-None-clause-parts
returns-in-None-clause-parts c = slice_split-cut_none c.args.text.now c.args.separator (sym c.in-None.ensures)

pub returns-in-Some-clause-cut : goal.returns-in-Some-clause-cut
returns-in-Some-clause-cut c = cut_at c.args.text.now c.args.separator c.in-Some.at (sym c.in-Some.ensures)

pub returns-in-Some-clause-parts : goal.returns-in-Some-clause-parts
returns-in-Some-clause-parts c =
    slice_split-cut_at c.args.text.now c.args.separator c.in-Some.at (sym c.in-Some.ensures)
