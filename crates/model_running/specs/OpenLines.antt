-- Where the turns of a run are spent: which user hasn't ended, by the lines of the script and the history alone.
use Rattle.std.specs.Prelude.{List, Some, length, slice_get, ℕ, ◌<◌, ◌≡◌, ◌⊎◌}
use Rattle.model_report.specs.{entries_of_user, HasNoLost, lines_of_user}
use Rattle.model_report.specs.declared.entry.Entry.{Entry}
use Rattle.model_report.specs.declared.entry.State.TheVariants.{Lost}
use Rattle.model_script.specs.declared.script.ScriptLine.{ScriptLine}

-- each line of the user is answered: it has an entry, which isn't lost
pub record IsAllAnswered (script : List ScriptLine) (entries : List Entry) (user : ℕ) : Type 0 where
  pub all_reserved : length (entries_of_user user entries) ≡ length (lines_of_user user script)
  pub none_lost : HasNoLost (entries_of_user user entries)

-- A line of the user isn't answered: it has no entry, or a lost one. Each lower user has all of its lines answered, unless a
-- call of a device answered an error, by which a user ends too.
pub record LeavesOpen (script : List ScriptLine) (entries : List Entry) (met_error : Type 0) (user : ℕ) : Type 0 where
  pub line : ℕ
  pub is_line : line < length (lines_of_user user script)
  pub unanswered : (i : ℕ) (entry : Entry) → slice_get (entries_of_user user entries) i ≡ Some entry → entry.k ≡ line → entry.state ≡ Lost
  pub least : (lower : ℕ) → lower < user → IsAllAnswered script entries lower ⊎ met_error
