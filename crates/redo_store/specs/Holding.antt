-- What the device of a data part holds of pages, and what a batch keeps of that.
use Rattle.std.specs.Prelude.{ℕ, ◌≡◌, ◌≤◌, ◌*◌, List, IfSome, is_some}
use Rattle.model_base.specs.{IsWithinLimits}
use Rattle.model_base.specs.declared.shape.Shape.{Shape}
use Rattle.model_page.specs.{data_device_length}
use Rattle.model_page.specs.declared.content.Content.{Content}
use Rattle.model_parts.specs.{Fresh, IsUpTo, Keeps}
use Rattle.model_parts.specs.Stored.{Stored}
use Rattle.redo_disk.specs.{Seen}
use Rattle.redo_store.specs.Part.{Part}

-- what each part has: a device that is long enough, and room for all slots
pub record IsFitted {D : Type 0} (seen : D → Seen) (dev : D) (shape : Shape) (room : ℕ) : Type 0 where
  pub limits : IsWithinLimits shape
  pub long : data_device_length shape ≤ (seen dev).size
  pub for_slots : room ≡ shape.slots * shape.page_size

-- What the device of a part holds, where it tells. The pages were these, the batch has others for some of them, and the
-- copies are up to the pages named first: to those that were, as long as the part runs.
abbrev pub PartStores : {D : Type 0} → (D → Seen) → (ℕ → Content) → (ℕ → Content) → List Fresh → Part D → Type 0
PartStores seen top was batch part =
    IfSome (seen part.dev).tells (Stored part.shape (IsUpTo top) was batch (is_some part.failed))

-- the same without what is so only as long as no call has failed
abbrev pub PartKeeps : {D : Type 0} → (D → Seen) → (ℕ → Content) → (ℕ → Content) → List Fresh → Part D → Type 0
PartKeeps seen top was batch part = IfSome (seen part.dev).tells (Keeps part.shape (IsUpTo top) was batch)
