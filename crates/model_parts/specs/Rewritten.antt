-- The data device while a store is opened: places that don't pass are repaired, and then each page is written as it is
-- read.
use Rattle.std.specs.Prelude.{ℕ, ◌≡◌, ◌≤◌, ◌⊎◌, List, length, slice_get, Some}
use Rattle.model_base.specs.declared.shape.Shape.{Shape}
use Rattle.model_page.specs.{data_device_length, IsKept}
use Rattle.model_page.specs.declared.content.Content.{Content}
use Rattle.model_store.specs.{HasOldCopies, Reading}

-- page p is kept as it was kept on the device before, or as it is read
pub record KeepsEither (shape : Shape) (old new : List ℕ) (p : ℕ) (page : Content) : Type 0 where
  pub kept : Content
  pub is_kept : IsKept shape new p kept
  pub which : IsKept shape old p kept ⊎ (kept ≡ page)

-- An image of the data device on which each page is kept as it was or as it is read, and no copy is ahead of its page.
pub record IsRewriting (opened : Reading) (old new : List ℕ) : Type 0 where
  pub long : data_device_length opened.shape ≤ length new
  pub each : (p : ℕ) (page : Content) → slice_get opened.pages p ≡ Some page → KeepsEither opened.shape old new p page
  pub old_copies : HasOldCopies new opened

-- and one on which each page is kept as it is read
pub record IsRewritten (opened : Reading) (new : List ℕ) : Type 0 where
  pub long : data_device_length opened.shape ≤ length new
  pub each : (p : ℕ) (page : Content) → slice_get opened.pages p ≡ Some page → IsKept opened.shape new p page
  pub old_copies : HasOldCopies new opened
