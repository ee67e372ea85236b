-- What is left of a script, user by user.
use Rattle.std.specs.Prelude.{ℕ, ◌≡◌, ◌-◌, List, length}
use Rattle.std.specs.Ordering.{nat_cmp}
use Rattle.std.specs.Option.{unwrap_or}
use Rattle.std.specs.BTreeMap.{BTreeMap}
use Rattle.std.specs.BTreeMap as tree
use Rattle.model_script.specs.declared.script.ScriptLine.{ScriptLine}
use Rattle.model_report.specs.{entries_of_user, lines_of_user}
use Rattle.model_report.specs.declared.entry.Entry.{Entry}

-- what the map has for a user, and 0 where it has nothing
abbrev pub mapped_count : BTreeMap ℕ ℕ → ℕ → ℕ
mapped_count counts user = unwrap_or (tree.get nat_cmp counts user) 0

-- the map has how many of the lines each user has
abbrev pub CountsLines : BTreeMap ℕ ℕ → List ScriptLine → Type 0
CountsLines counts lines = (user : ℕ) → mapped_count counts user ≡ length (lines_of_user user lines)

-- the map has, for each user, how many of the lines are more than its entries
abbrev pub CountsLeft : BTreeMap ℕ ℕ → List ScriptLine → List Entry → Type 0
CountsLeft counts lines entries =
    (user : ℕ) → mapped_count counts user ≡ length (lines_of_user user lines) - length (entries_of_user user entries)
