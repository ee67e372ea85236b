use Rattle.std.proofs.Common.{length, ◌∙◌}
use Rattle.std.proofs.lemmas.Iterator.Adapters.{YieldsList-from_vec}
use Rattle.std.proofs.lemmas.Iterator.Consumers.{YieldsList-turn}
use Rattle.redo_useractor.proofs.Lines.{line_here}
use Rattle.redo_useractor.proofs.making.lines_of.Goals as goal

pub line_of-requires-clause-line : goal.line_of-requires-clause-line
line_of-requires-clause-line c =
    let gives = c.into_iter-mode-iterator.ensures.into_iter_gives in
    let turn = YieldsList-turn (YieldsList-from_vec c.args.lines.items gives.0 (gives.1 ∙ c.args.lines.ok.0)) c.loop-mode.yielded c.loop-mode.mode-iterator c.loop-mode.yielded_by c.next.result c.next.new.self (c.in-Some.mode, c.in-Some.group) c.in-Some.is c.next.ensures.steps in
    line_here c.args.shape.now c.args.lines.items (length c.loop-mode.yielded) (c.in-Some.mode, c.in-Some.group) c.requires.lines turn.0 turn.1
