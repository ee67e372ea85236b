-- What a user does at a place among the changed cells of its page.
use Rattle.std.proofs.Common.{arith, subst, ◌≡◌, ◌≤◌}
use native.Mathlib.Decide.{dec_le, ℕ_discrete}
use Rattle.model_core.specs.{cells_of}
use Rattle.redo_useractor.proofs.Places.{step_end, step_part, step_whole}
use Rattle.redo_useractor.specs.CellsStep.{cells_step}
use Rattle.redo_useractor.specs.Places.{IsNextCell}
use Rattle.redo_useractor.specs.UserView.{HasGroup, IsAt, IsAtPage, user_view}
use Rattle.redo_useractor.specs.Written.{words_end}
use Rattle.redo_useractor.specs.declared.actor.UserActor.TheInside.{Inside}

-- its step is one that it may be at there
pub at_step : (u : Inside) → HasGroup u → IsAtPage u → IsNextCell (cells_of (user_view u)) u.at.word u.at.count u.cell → IsAt u (cells_step (cells_of (user_view u)) u.cell)
at_step u group page here = by (ℕ_discrete u.at.word words_end) (dec_le 8 u.at.count)
  where
    by : Dec (u.at.word ≡ words_end) → Dec (8 ≤ u.at.count) → IsAt u (cells_step (cells_of (user_view u)) u.cell)
    by (yes end) d = subst (IsAt u) (step_end (cells_of (user_view u)) u.at.word u.at.count u.cell here end) (group, page)
    by (no not) (no few) = subst (IsAt u) (step_part (cells_of (user_view u)) u.at.word u.at.count u.cell here not (omega arith)) (group, page, (here, (let w = here.within in omega arith)))
    by (no not) (yes many) = subst (IsAt u) (step_whole (cells_of (user_view u)) u.at.word u.at.count u.cell here not many) (group, page, (here, (let w = here.within in omega arith)))
