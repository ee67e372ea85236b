-- The users of a run, as its script has them.
use Rattle.std.specs.Prelude.{List, Some, length, slice_get, ℕ, ◌<◌, ◌≡◌, ◌≤◌}
use lib.ListN.{get_elem?}
use Rattle.model_base.specs.declared.shape.Shape.{Shape}
use Rattle.model_core.specs.{Actor, Line, line_at, line_of, UserState, Setup}
use Rattle.model_core.specs.declared.limits.TheConstants.{READERS}
use Rattle.model_report.specs.{lines_of_user}
use Rattle.model_script.specs.{group_of}
use Rattle.model_script.specs.declared.script.ScriptLine.{ScriptLine}
use Rattle.model_core.specs.States as actor
use mathlib.Core.Option as maybe

-- A line of the script as its user runs it: its mode, the text of its group, and the cells that the group changes, page by
-- page; with the log alone it changes none.
abbrev pub IsLineOf : Setup → Shape → ScriptLine → Line → Type 0
IsLineOf c shape one line = ◌≡◌ {A = Line} line (line_of c.log_only shape one.mode (group_of shape.space one))

-- the users' lines are those of the script, in order
pub record IsOfScript (c : Setup) (script : List ScriptLine) (shape : Shape) : Type 0 where
  pub count : (user : ℕ) → length (c.script user) ≡ length (lines_of_user user script)
  pub readers : c.first_reader ≤ c.last_reader
  pub few_readers : c.last_reader ≤ READERS
  pub each : (user k : ℕ) (one : ScriptLine) → slice_get (lines_of_user user script) k ≡ Some one → IsLineOf c shape one (line_at (c.script user) k)

-- each user that has a line has a seat
abbrev pub HasSeats : List ScriptLine → List Actor → Type 0
HasSeats script actors = (user : ℕ) → 0 < length (lines_of_user user script) → (seat : ℕ) × (u : UserState) × (get_elem? actors seat ≡ maybe.some (actor.User u)) × (u.user ≡ user)
