-- Groups that fit a store's pages.
use Rattle.std.specs.Prelude.{ℕ, ◌≤◌, ◌+◌, List, length}
use Rattle.model_base.specs.declared.shape.Shape.{Shape}
use Rattle.model_base.specs.declared.limits.TheConstants.{USER_START}
use Rattle.model_log.specs.{GroupFits}
use Rattle.model_log.specs.declared.rec.Rec.{Rec}
use Rattle.model_log.specs.declared.rec.Rec.TheVariants.{Num, Text, Init}
use Rattle.model_page.specs.declared.content.Content.{Content}
use Rattle.redo_apply.specs.Fits.{ArePagesOf}

-- the group fits the store that has these pages
pub record FitsPages (group : List Rec) (pages : List Content) : Type 0 where
  pub shape : Shape
  pub its_pages : ArePagesOf shape pages
  pub fits : GroupFits shape group

-- the record writes within so many user bytes
abbrev pub WritesWithin : ℕ → Rec → Type 0
WritesWithin count (Num width space page offset value) = (USER_START ≤ offset) × (offset + width ≤ USER_START + count)
WritesWithin count (Text space page offset bytes) = (USER_START ≤ offset) × (offset + length bytes ≤ USER_START + count)
WritesWithin count (Init space page) = Unit {0}
