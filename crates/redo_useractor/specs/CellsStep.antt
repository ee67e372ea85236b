-- Where a user goes on among the changed cells of a page.
use Rattle.std.specs.Prelude.{List, cond, length, ℕ, ◌==◌}
use Rattle.model_core.specs.{CellWrite, word_step}
use Rattle.model_core.specs.declared.steps.UserStep.{UserStep}
use Rattle.model_core.specs.declared.steps.UserStep.TheVariants as user_step

abbrev pub cells_step : List CellWrite → ℕ → UserStep
cells_step cells place = cond (place == length cells) user_step.StoreNewest (word_step cells place)
