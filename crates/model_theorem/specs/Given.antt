-- What a run is given.
use Rattle.std.specs.Prelude.{ℕ, ◌≡◌, ◌≤◌, List, Some, slice_get, length}
use Rattle.std.specs.List.{AllByRecursion}
use Rattle.model_base.specs.declared.limits.TheConstants.{SLOTS}
use Rattle.model_base.specs.{IsWithinLimits}
use Rattle.model_page.specs.declared.content.Content.{Content}
use Rattle.model_script.specs.declared.script.ScriptLine.{ScriptLine}
use Rattle.model_script.specs.{LineFits}
use Rattle.model_theorem.specs.Run.{Opened}

-- a store of the latest format, no page of which is ahead of its log, and a script of which each line fits it
pub record AreGiven (script : List ScriptLine) (opened : Opened) : Type 0 where
  pub shape : IsWithinLimits opened.shape
  pub slots : opened.shape.slots ≡ SLOTS
  pub count : length opened.pages ≡ opened.shape.pages
  pub not_ahead : (p : ℕ) (page : Content) → slice_get opened.pages p ≡ Some page → page.lsn ≤ opened.end
  pub fits : AllByRecursion (LineFits opened.shape) script
