-- The data device while the places that didn't pass are repaired.
use Rattle.std.specs.Prelude.{ℕ, ◌≡◌, ◌≢◌, ◌≤◌, ◌<◌, length, slice_get, Some, None}
use Rattle.model_base.specs.declared.shape.Shape.{Shape}
use Rattle.model_device.specs.{settled, Disk}
use Rattle.model_parts.specs.{KeepsSame, SameSlots}
use Rattle.model_page.specs.{data_device_length, place_bytes, place_lsn, slot_bytes}
use Rattle.redo_recover.specs.{IsFoundAt}
use Rattle.redo_recover.specs.declared.places.Found.{Found}
use Rattle.redo_recover.specs.declared.places.Places.{Places}

-- nothing is pending on the device, which is as long as the shape asks
pub record IsSettledData (shape : Shape) (disk : Disk) : Type 0 where
  pub nothing_pending : disk ≡ settled disk.base
  pub long : data_device_length shape ≤ length disk.base

-- the slots hold what was read, and the pages from this one on stand where they were found
pub record StandFrom (shape : Shape) (places : Places) (from : ℕ) (disk : Disk) : Type 0 where
  pub slots : SameSlots shape disk.base places.slots.items
  pub each : (p : ℕ) (found : Found) → from ≤ p → slice_get places.found.items p ≡ Some found → IsFoundAt shape disk.base p found

-- nothing is pending, and the kept pages and the slots are those that were
pub record StaysKept (shape : Shape) (old new : Disk) : Type 0 where
  pub nothing_pending : new ≡ settled new.base
  pub same_length : length new.base ≡ length old.base
  pub same : KeepsSame shape old.base new.base
  pub slots : (slot : ℕ) → slot < shape.slots → slot_bytes shape slot new.base ≡ slot_bytes shape slot old.base

-- and this place passes now, and the others hold what they held
pub record IsMended (shape : Shape) (page : ℕ) (old new : Disk) : Type 0 where
  pub stays : StaysKept shape old new
  pub passes : place_lsn shape new.base page ≢ None
  pub others : (p : ℕ) → p < shape.pages → p ≢ page → place_bytes shape p new.base ≡ place_bytes shape p old.base

-- and those of all pages below this one pass, and the others hold what they held
pub record AreMended (shape : Shape) (count : ℕ) (old new : Disk) : Type 0 where
  pub stays : StaysKept shape old new
  pub pass : (p : ℕ) → p < count → place_lsn shape new.base p ≢ None
  pub others : (p : ℕ) → p < shape.pages → count ≤ p → place_bytes shape p new.base ≡ place_bytes shape p old.base
