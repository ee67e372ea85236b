use Rattle.std.proofs.Common.{ap, arith, length, length-append, subst, sym, ◌<◌, ◌∙◌, ◌≡◌}
use Rattle.model_core.specs.{change_at, Line, line_at}
use Rattle.redo_useractor.proofs.Kept.{kept_line}
use Rattle.redo_useractor.specs.Books.{BookState}
use Rattle.redo_useractor.specs.Places.{cells_before, IsNextCell}
use Rattle.redo_useractor.proofs.book.Book.place_from.Goals as goal

pub returns-clause-place : goal.returns-clause-place
returns-clause-place c =
    let b = c.self.inside in
    let past = b.past_lines.items in
    let kept = b.lines.items in
    let line = subst (λ (s : BookState). s.k < length s.lines) (sym c.self.view_is) c.requires.line in
    let there : b.k < length kept = (let n = length-append past kept in omega arith) in
    let is : c.index_mut.result.now ≡ line_at c.args.self.now.lines c.args.self.now.k =
    kept_line past kept b.k c.index_mut.result.now there c.index_mut.ensures.value
    ∙ ap (λ (s : BookState). line_at s.lines s.k) c.self.view_is in
    subst (λ (l : Line). IsNextCell (change_at l.changes c.args.page).cells c.place_from.result.word
    c.place_from.result.count (cells_before c.args.word (change_at l.changes c.args.page).cells))
    is c.place_from.ensures.place
