-- Groups that fit a store.
use Rattle.std.specs.Prelude.{ℕ, ◌≡◌, List, length, slice_get, Some, All}
use Rattle.model_base.specs.{IsWithinLimits, user_length}
use Rattle.model_base.specs.declared.shape.Shape.{Shape}
use Rattle.model_log.specs.{GroupFits}
use Rattle.model_log.specs.declared.rec.Rec.{Rec}
use Rattle.model_log.specs.declared.group.Whole.{Whole}
use Rattle.model_page.specs.declared.content.Content.{Content}
use Rattle.redo_apply.specs.{ArePagesOf}
use Rattle.redo_papply.specs.declared.frame.Frame.{Frame}

-- these are the pages of a store within the limits, which each of the groups fits
pub record FitPages (wholes : List Whole) (pages : List Content) : Type 0 where
  pub shape : Shape
  pub limits : IsWithinLimits shape
  pub its_pages : ArePagesOf shape pages
  pub fit : All (λ whole. GroupFits shape whole.group) wholes

-- these frames have pages of a store that the group fits
pub record FitFrames (group : List Rec) (frames : List Frame) : Type 0 where
  pub shape : Shape
  pub fits : GroupFits shape group
  pub sizes : (i : ℕ) (frame : Frame) → slice_get frames i ≡ Some frame → length frame.user.items ≡ user_length shape
