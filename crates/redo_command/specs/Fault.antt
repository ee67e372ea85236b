-- Why words aren't read.
use Rattle.std.specs.Prelude.{ℕ, ◌≡◌, List, None}
use Rattle.model_script.specs.{asked_of}
use Rattle.redo_command.specs.declared.fault.WordsFault.{WordsFault}
use Rattle.redo_command.specs.declared.fault.WordsFault.TheVariants.{NotCommand, NoMemory}

-- the fault of these words; memory may run out on any words
abbrev pub IsWordsFaultOf : List (List ℕ) → WordsFault → Type 0
IsWordsFaultOf words NotCommand = asked_of words ≡ None
IsWordsFaultOf words NoMemory = Unit {0}
