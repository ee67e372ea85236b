use Rattle.std.proofs.Common.{subst, sym, ℕ, ◌∙◌}
use Rattle.model_core.specs.{change_at, changes, UserState}
use Rattle.redo_useractor.proofs.Places.{none_before}
use Rattle.redo_useractor.specs.Places.{IsNextCell}
use Rattle.redo_useractor.proofs.actor.UserActor.to_cells.Goals as goal

pub comes_to-requires-clause-place : goal.comes_to-requires-clause-place
comes_to-requires-clause-place c =
    let at = c.place_from-at.result in
    let cells = (change_at (changes c.args.self.now) c.args.page).cells in
    subst (λ (s : UserState). IsNextCell (change_at (changes s) c.args.page).cells at.word at.count c.args.cell) (sym c.place_from-at.ensures.same)
    (subst (λ (n : ℕ). IsNextCell cells at.word at.count n) (none_before cells ∙ sym c.requires.first) c.place_from-at.ensures.place)
