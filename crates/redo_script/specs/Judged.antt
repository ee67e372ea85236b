-- Why a script, or some lines of one, may not be run on a store.
use Rattle.std.specs.Prelude.{ℕ, ◌≡◌, List, map, Option, Some}
use Rattle.model_base.specs.declared.shape.Shape.{Shape}
use Rattle.model_script.specs.{first_misfit, first_misfit_of, line_misfit}
use Rattle.model_script.specs.declared.script.ScriptLine.{ScriptLine}
use Rattle.redo_script.specs.declared.unfit.Unfit.{Unfit}
use Rattle.redo_script.specs.declared.unfit.Unfit.TheVariants.{Misfit, NoMemory}

-- a line, by itself
abbrev pub IsUnfitLine : Shape → ScriptLine → Unfit → Type 0
IsUnfitLine shape line (Misfit misfit) = line_misfit shape line ≡ Some misfit
IsUnfitLine shape line NoMemory = Unit {0}

-- lines, each by itself
abbrev pub AreUnfitLines : Shape → List ScriptLine → Unfit → Type 0
AreUnfitLines shape lines (Misfit misfit) = first_misfit_of (map (line_misfit shape) lines) ≡ Some misfit
AreUnfitLines shape lines NoMemory = Unit {0}

-- a script that would start at this lsn, on a log that has room up to there, if no checkpoint frees it, and with an archive on
-- a device of so many bytes, if there is one
abbrev pub IsUnfitScript : Shape → ℕ → Option ℕ → Option ℕ → List ScriptLine → Unfit → Type 0
IsUnfitScript shape start room_end archive script (Misfit misfit) =
    first_misfit shape start room_end archive script ≡ Some misfit
IsUnfitScript shape start room_end archive script NoMemory = Unit {0}
