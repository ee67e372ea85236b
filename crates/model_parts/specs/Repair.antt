-- What the repair of a page does: the copy that counts is put into its place.
-- The data device once the places that didn't pass are repaired.
use Rattle.std.specs.Prelude.{ℕ, ◌≡◌, ◌≢◌, ◌<◌, ◌⊎◌, ◌↔◌, List, length, Some, None}
use Rattle.model_base.specs.declared.shape.Shape.{Shape}
use Rattle.model_page.specs.{copy_lsn, HasNoCopy, IsBestCopy, IsKept, place_bytes, place_lsn, slot_bytes, IsInPlace}
use Rattle.model_page.specs.declared.content.Content.{Content}
use Rattle.model_device.specs.{IsPutOrNot, settled, synced, written, Disk}
use Rattle.model_device.specs.declared.write.Write.{Write}
use Rattle.model_parts.specs.Batch.{place_at}
use Rattle.model_store.specs.{IsFair}

-- the kept pages of the two images are the same
abbrev pub KeepsSame : Shape → List ℕ → List ℕ → Type 0
KeepsSame shape old new = (p : ℕ) (content : Content) → p < shape.pages → IsKept shape old p content ↔ IsKept shape new p content

-- the slots of the two images hold the same
abbrev pub SameSlots : Shape → List ℕ → List ℕ → Type 0
SameSlots shape old new = (slot : ℕ) → slot < shape.slots → slot_bytes shape slot new ≡ slot_bytes shape slot old

-- by what reads give, the page's place doesn't pass, and a copy of it does
pub record IsRepairable (shape : Shape) (page : ℕ) (disk : Disk) : Type 0 where
  pub broken : place_lsn shape disk.reads page ≡ None
  pub slot : ℕ
  pub lsn : ℕ
  pub below : slot < shape.slots
  pub passes : copy_lsn shape disk.reads page slot ≡ Some lsn

-- the write of a copy into the place of its page
abbrev pub repair_write : Shape → ℕ → List ℕ → Write
repair_write shape page bytes = record { at = place_at shape page; bytes = bytes }

-- the copy that counts was put into the place and stays there, or there is none
pub record IsCopyPut (shape : Shape) (page : ℕ) (old new : Disk) : Type 0 where
  pub slot : ℕ
  pub lsn : ℕ
  pub best : IsBestCopy shape old.reads page slot lsn
  pub put : new ≡ synced (written old (repair_write shape page (slot_bytes shape slot old.reads)))

abbrev pub IsPutBack : Shape → ℕ → Disk → Disk → Type 0
IsPutBack shape page old new = IsCopyPut shape page old new ⊎ (HasNoCopy shape old.reads page × (new ≡ old))

-- nothing was written, or the write of the copy that counts or its sync failed
pub record FailsCopy (shape : Shape) (page : ℕ) (old new : Disk) : Type 0 where
  pub slot : ℕ
  pub lsn : ℕ
  pub best : IsBestCopy shape old.reads page slot lsn
  pub calls : IsPutOrNot (repair_write shape page (slot_bytes shape slot old.reads)) old new

abbrev pub FailsPutBack : Shape → ℕ → Disk → Disk → Type 0
FailsPutBack shape page old new = (new ≡ old) ⊎ FailsCopy shape page old new

-- in each fair image the kept pages are as before, and so are the slots
pub record KeepsAll (shape : Shape) (old new : Disk) : Type 0 where
  pub long : length new.base ≡ length old.base
  pub same : (image : List ℕ) → IsFair shape new image → KeepsSame shape old.base image
  pub slots : (image : List ℕ) → IsFair shape new image → SameSlots shape old.base image

-- the place passes now, and the other stretches hold what they held
pub record IsRepaired (shape : Shape) (page : ℕ) (old new : Disk) : Type 0 where
  pub nothing_pending : new ≡ settled new.base
  pub passes : place_lsn shape new.base page ≢ None
  pub others : (p : ℕ) → p < shape.pages → p ≢ page → place_bytes shape p new.base ≡ place_bytes shape p old.base
  pub slots : SameSlots shape old.base new.base

-- the kept pages and the slots are those that were, and each place passes
pub record AreRepaired (shape : Shape) (old new : List ℕ) : Type 0 where
  pub same_length : length new ≡ length old
  pub same : KeepsSame shape old new
  pub slots : (slot : ℕ) → slot < shape.slots → slot_bytes shape slot new ≡ slot_bytes shape slot old
  pub pass : (p : ℕ) → p < shape.pages → place_lsn shape new p ≢ None

-- what the places hold
abbrev pub AreHeld : Shape → List ℕ → (ℕ → Content) → Type 0
AreHeld shape image held = (p : ℕ) → p < shape.pages → IsInPlace shape image p (held p)
