-- Why a text isn't parsed.
use Rattle.std.specs.Prelude.{ℕ, ◌≡◌, List, Result, Err}
use Rattle.model_script.specs.declared.script.ScriptLine.{ScriptLine}
use Rattle.redo_script.specs.declared.fault.ScriptFault.{ScriptFault}
use Rattle.redo_script.specs.declared.fault.ScriptFault.TheVariants.{Line, NoMemory}

-- the fault of a text that says this; memory may run out on any text
abbrev pub IsFaultOf : Result (List ScriptLine) ℕ → ScriptFault → Type 0
IsFaultOf said (Line n) = said ≡ Err n
IsFaultOf said NoMemory = Unit {0}
