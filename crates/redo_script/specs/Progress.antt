-- How far a script is read.
use Rattle.std.specs.Prelude.{ℕ, ◌+◌, List, ◌++◌, length, Option, Some, None, Result, Ok, Err}
use Rattle.std.specs.Borrow.{Bor}
use Rattle.model_script.specs.declared.item.Item.{Item}
use Rattle.model_script.specs.declared.script.ScriptLine.{ScriptLine}

-- the operations that were read, and then the others
abbrev pub after_items : List Item → Option (List Item) → Option (List Item)
after_items done None = None
after_items done (Some others) = Some (done ++ others)

-- how much is left, in bytes and one for the cut before it
abbrev pub left_after : Option (Bor (List ℕ)) → ℕ
left_after None = 0
left_after (Some rest) = length rest.now + 1

-- the lines that were read, and then the others
abbrev pub after_lines : List ScriptLine → Result (List ScriptLine) ℕ → Result (List ScriptLine) ℕ
after_lines done (Ok others) = Ok (done ++ others)
after_lines done (Err n) = Err n
