-- The pages to which groups are applied.
use Rattle.std.specs.Prelude.{ℕ, ◌≡◌, List, length, slice_get, Some}
use Rattle.model_base.specs.{user_length}
use Rattle.model_base.specs.declared.shape.Shape.{Shape}
use Rattle.model_page.specs.declared.content.Content.{Content}

-- the pages of a store of this shape
pub record ArePagesOf (shape : Shape) (pages : List Content) : Type 0 where
  pub count : length pages ≡ shape.pages
  pub sizes : (p : ℕ) (page : Content) → slice_get pages p ≡ Some page → length page.user ≡ user_length shape
