-- A user that is handed in one line more.
use Rattle.std.specs.Prelude.{[], true, ◌++◌, ◌∷◌}
use Rattle.model_core.specs.{Line, UserState}
use Rattle.model_core.specs.declared.steps.UserStep.TheVariants as user_step

-- it has the line after the others, and goes on to it
abbrev pub with_line : UserState → Line → UserState
with_line u line = record u { lines = u.lines ++ line ∷ []; checks = true; step = user_step.LoadCheckpoint }
