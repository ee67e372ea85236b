-- The ranges of what a script's lines say.
-- That a script fits a store, by its lines and the room for all of them. It fits exactly where it has no misfit.
use Rattle.std.specs.Prelude.{◌≡◌, ◌≢◌, ◌≤◌, ◌<◌, ◌^◌, ◌⊎◌, [], length, All, ℕ, ◌+◌, if◌then◌else◌, Bool, List, Option, Some, None, IfSome}
use Rattle.std.specs.List.{AllByRecursion}
use Rattle.model_log.specs.{IsByte, IsWidth, group_length, GroupFits, IsGroup}
use Rattle.model_script.specs.declared.item.Item.{Item}
use Rattle.model_script.specs.declared.item.Item.TheVariants.{Num, Text, Init}
use Rattle.model_script.specs.declared.script.ScriptLine.{ScriptLine}
use Rattle.model_base.specs.declared.shape.Shape.{Shape}
use Rattle.model_base.specs.declared.limits.TheConstants.{LSN_LIMIT, MAX_GROUP}
use Rattle.model_script.specs.Fit.{archive_need, first_misfit, script_end, group_of}
use Rattle.model_script.specs.declared.misfit.TheConstants.{MARGIN, MAX_USERS}

-- each number of the operation is in the range of its field; a string has a byte
abbrev pub IsInRange : Item → Type 0
IsInRange (Num width page offset value) = IsWidth width × (page < 2 ^ 32) × (offset < 2 ^ 16) × (value < 256 ^ width)
IsInRange (Text page offset bytes) = (page < 2 ^ 32) × (offset < 2 ^ 16) × (1 ≤ length bytes) × All IsByte bytes
IsInRange (Init page) = page < 2 ^ 32

-- a line has an operation at least
pub record IsScriptLine (line : ScriptLine) : Type 0 where
  pub user : line.user < 2 ^ 32
  pub mode : (line.mode ≡ 1) ⊎ (line.mode ≡ 2) ⊎ (line.mode ≡ 0)
  pub some : line.items ≢ []
  pub each : AllByRecursion IsInRange line.items

-- the line may run on the store: its user has one of the numbers there are, and its group is one that fits
pub record LineFits (shape : Shape) (line : ScriptLine) : Type 0 where
  pub user_from : 1 ≤ line.user
  pub user_to : line.user ≤ MAX_USERS
  pub has_text : IsGroup (group_of shape.space line)
  pub short : group_length (group_of shape.space line) ≤ MAX_GROUP
  pub fits : GroupFits shape (group_of shape.space line)

-- Each line of a script may run on the store, on which it would start at this lsn, and the log has room for all of them
-- (the law `fitting_script`).
pub record ScriptFits (shape : Shape) (start : ℕ) (room_end : Option ℕ) (script : List ScriptLine) : Type 0 where
  pub lines : AllByRecursion (LineFits shape) script
  pub end : script_end shape start script < LSN_LIMIT
  pub room : IfSome room_end (λ room_end. script_end shape start script + MARGIN ≤ room_end)

-- The archive's device, where there is one, has room for the run (the law `fitting_archive`).
abbrev pub ArchiveFits : Shape → ℕ → Option ℕ → List ScriptLine → Type 0
ArchiveFits shape start archive script =
    IfSome archive (λ size. archive_need shape start (script_end shape start script) ≤ size)

-- Nothing of a script is a misfit on a store on which it would start at this lsn: what is asked before it is run. Where
-- no checkpoint frees the log it has room up to `room`; else that isn't judged.
pub record Fits (shape : Shape) (start room : ℕ) (log_only : Bool) (archive : Option ℕ) (script : List ScriptLine) : Type 0 where
  pub no_misfit : first_misfit shape start (if log_only then Some room else None) archive script ≡ None
