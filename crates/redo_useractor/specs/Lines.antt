-- The lines that a user may have.
use Rattle.std.specs.Prelude.{List, Some, slice_get, ℕ, ◌<◌, ◌≡◌, ◌≤◌}
use Rattle.model_base.specs.declared.limits.TheConstants.{MAX_GROUP}
use Rattle.model_base.specs.declared.shape.Shape.{Shape}
use Rattle.model_log.specs.{group_length, GroupFits, IsGroup}
use Rattle.model_log.specs.declared.rec.Rec.{Rec}

-- a mode, as InnoDB numbers it, and a group that fits the store and has a text of at most 8,192 bytes
pub record IsUserLine (shape : Shape) (line : ℕ × List Rec) : Type 0 where
  pub mode : line.0 < 3
  pub is_group : IsGroup line.1
  pub short : group_length line.1 ≤ MAX_GROUP
  pub fits : GroupFits shape line.1

abbrev pub AreUserLines : Shape → List (ℕ × List Rec) → Type 0
AreUserLines shape lines = (i : ℕ) (line : ℕ × List Rec) → slice_get lines i ≡ Some line → IsUserLine shape line
