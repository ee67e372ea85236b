use Rattle.std.proofs.Common.{length, sym, ap, ◌∙◌, rules}
use Rattle.std.proofs.lemmas.Bool.{eqb-true}
use Rattle.redo_io.proofs.FirstLine.{numbered_none, numbered_first}
use Rattle.redo_io.proofs.lines.LinesIterator.next.Goals as goal

pub returns-then-is_empty-clause-steps : goal.returns-then-is_empty-clause-steps
returns-then-is_empty-clause-steps c =
    let none = sym c.self.view_is ∙ numbered_none _ c.self.inside.rest.now (eqb-true _ _ (sym c.if-is_empty.ensures)) in (none, none)

pub returns-clause-steps : goal.returns-clause-steps
returns-clause-steps c =
    sym c.self.view_is ∙ numbered_first _ _ _ _ _ c.first_line.ensures.first c.strip_return.ensures

pub returns-clause-goes : goal.returns-clause-goes
returns-clause-goes c =
    let one_less = ap length (returns-clause-steps c) in
    search (rules, one_less)
