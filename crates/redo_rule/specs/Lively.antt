-- A live run, into which lines are handed while it goes on: its script at any moment.
use Rattle.std.specs.Prelude.{List, ℕ, ◌*◌, ◌+◌, ◌<◌, ◌≤◌}
use Rattle.std.specs.List.{AllByRecursion}
use Rattle.model_base.specs.declared.limits.TheConstants.{LSN_LIMIT}
use Rattle.model_base.specs.declared.shape.Shape.{Shape}
use Rattle.model_core.specs.{lsn, Setup}
use Rattle.model_logcore.specs.{lengths}
use Rattle.model_script.specs.{IsScriptLine, LineFits}
use Rattle.model_script.specs.declared.script.ScriptLine.{ScriptLine}
use Rattle.redo_rule.specs.declared.law.Live.{Live}

-- WHAT WAS HANDED IN FITS THE STORE, and no user has more bytes than its quota, for which there is room: the log ends below
-- its last lsn even where each of so many actors comes to its quota.
pub record HasRoom (live : Live) (shape : Shape) (script : List ScriptLine) (actors : ℕ) (c : Setup) : Type 0 where
  pub lines : AllByRecursion IsScriptLine script
  pub fits : AllByRecursion (LineFits shape) script
  pub within : (user : ℕ) → lengths (c.script user) ≤ live.quota
  pub short : lsn (c.base + actors * live.quota) < LSN_LIMIT
