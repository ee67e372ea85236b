-- It is at a word of the frame, and goes on after the cells that it has stored there.
use Rattle.std.proofs.Common.{ap, arith, subst, sym, ℕ, ◌+◌, ◌∙◌, ◌≡◌}
use Rattle.model_core.specs.{change_at, changes, UserState}
use Rattle.redo_useractor.specs.Places.{cells_before, IsNextCell}
use Rattle.redo_useractor.specs.UserView.{IsAt}
use Rattle.redo_useractor.proofs.actor.UserActor.stored_frame.Goals as goal

pub overflow_add-next : goal.overflow_add-next
overflow_add-next c =
    let here = subst (IsAt c.self.inside) (ap (λ (s : UserState). s.step) c.self.view_is ∙ c.requires.step) c.self.invariant.step in
    omega (arith, here.2.0.few here.2.1)

pub comes_to-requires-clause-place : goal.comes_to-requires-clause-place
comes_to-requires-clause-place c =
    let u = c.self.inside in
    let here = subst (IsAt u) (ap (λ (s : UserState). s.step) c.self.view_is ∙ c.requires.step) c.self.invariant.step in
    let at = c.place_from-at.result in
    subst (λ (s : UserState). IsNextCell (change_at (changes s) u.page).cells at.word at.count (u.cell + u.at.count))
    (sym (c.self-2.view_is ∙ c.place_from-at.ensures.same))
    (subst (λ (n : ℕ). IsNextCell (change_at (changes c.args.self.now) u.page).cells at.word at.count n)
    (subst (λ (s : UserState). cells_before (u.at.word + 1) (change_at (changes s) u.page).cells ≡ u.cell + u.at.count) c.self.view_is
    (here.2.0.next here.2.1))
    c.place_from-at.ensures.place)
