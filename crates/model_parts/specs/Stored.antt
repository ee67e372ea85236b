-- What the data device of a store holds, whatever a crash leaves of it that is fair.
-- What a batch leaves of the pages of a store: for who writes it, and after a crash.
-- The pages of a store while they are written as they were read, batch after batch.
use Rattle.std.specs.Prelude.{ℕ, ◌≡◌, ◌≤◌, ◌<◌, ◌⊎◌, Bool, false, List, length, Some, slice_get, ◌==◌, if◌then◌else◌, [], ◌∷◌, take, drop}
use Rattle.model_base.specs.declared.shape.Shape.{Shape}
use Rattle.model_page.specs.{copy_lsn, data_device_length, IsInPlace, IsKept, slot_bytes, user_part, blank_page, IsLost}
use Rattle.model_page.specs.declared.content.Content.{Content}
use Rattle.model_device.specs.{settled, Disk}
use Rattle.model_store.specs.{IsFair, Reading}
use Rattle.model_parts.specs.Batch.{Fresh}
use Rattle.std.specs.List.{slice_index_or as get_or}
use Rattle.model_base.specs.{user_length}

-- the batch has this for the page
pub record IsNew (batch : List Fresh) (p : ℕ) (content : Content) : Type 0 where
  pub i : ℕ
  pub at : slice_get batch i ≡ Some (record { page = p; content = content })

-- the page as it was, or as the batch has it
abbrev pub IsOldOrNew : (ℕ → Content) → List Fresh → ℕ → Content → Type 0
IsOldOrNew was batch p content = (content ≡ was p) ⊎ IsNew batch p content

-- a copy that was there before, or one of the batch
abbrev pub IsKnown : (ℕ → Content → Type 0) → List Fresh → ℕ → Content → Type 0
IsKnown copies batch p content = copies p content ⊎ IsNew batch p content

-- what the slot holds as a copy with this lsn
abbrev pub copied : Shape → List ℕ → ℕ → ℕ → Content
copied shape image slot lsn = record { lsn = lsn; user = user_part (slot_bytes shape slot image) }

-- page p is kept, as it was or as the batch has it
pub record KeepsPage (shape : Shape) (was : ℕ → Content) (batch : List Fresh) (image : List ℕ) (p : ℕ) : Type 0 where
  pub content : Content
  pub kept : IsKept shape image p content
  pub which : IsOldOrNew was batch p content

-- An image: each page is kept as it was or as the batch has it, and so is each copy that passes.
pub record ImageHolds (shape : Shape) (copies : ℕ → Content → Type 0) (was : ℕ → Content) (batch : List Fresh) (image : List ℕ) : Type 0 where
  pub pages : (p : ℕ) → p < shape.pages → KeepsPage shape was batch image p
  pub known : (p slot lsn : ℕ) → p < shape.pages → slot < shape.slots → copy_lsn shape image p slot ≡ Some lsn
      → IsKnown copies batch p (copied shape image slot lsn)

-- there is no write since the last good sync
abbrev pub HasNothingPending : Disk → Type 0
HasNothingPending disk = disk ≡ settled disk.base

-- nothing is pending, and each place holds its page
pub record IsSteady (shape : Shape) (was : ℕ → Content) (disk : Disk) : Type 0 where
  pub nothing_pending : HasNothingPending disk
  pub places : (p : ℕ) → p < shape.pages → IsInPlace shape disk.base p (was p)

-- The data device of a store: each fair image of it holds the pages, as they were or as the batch has them.
pub record Keeps (shape : Shape) (copies : ℕ → Content → Type 0) (was : ℕ → Content) (batch : List Fresh) (disk : Disk) : Type 0 where
  pub long : data_device_length shape ≤ length disk.base
  pub each : (image : List ℕ) → IsFair shape disk image → ImageHolds shape copies was batch image

-- The same, and as long as no call has failed nothing is pending and each place holds its page as it was.
pub record Stored (shape : Shape) (copies : ℕ → Content → Type 0) (was : ℕ → Content) (batch : List Fresh) (failed : Bool) (disk : Disk) : Type 0 where
  pub keeps : Keeps shape copies was batch disk
  pub steady : failed ≡ false → IsSteady shape was disk

-- a copy is older than the page that is named here, or it is that page
abbrev pub IsUpTo : (ℕ → Content) → ℕ → Content → Type 0
IsUpTo top p content = (content.lsn < (top p).lsn) ⊎ (content ≡ top p)

-- the pages are no older in the batch than they are here, and of one lsn they are the same
pub record IsLater (top : ℕ → Content) (batch : List Fresh) : Type 0 where
  pub no_older : (p : ℕ) (new : Content) → IsNew batch p new → (top p).lsn ≤ new.lsn
  pub same : (p : ℕ) (new : Content) → IsNew batch p new → (top p).lsn ≡ new.lsn → top p ≡ new

-- the batch of these pairs of page and lsn, the user bytes being joined
abbrev pub batch_of : Shape → List (ℕ × ℕ) → List ℕ → List Fresh
batch_of shape [] users = []
batch_of shape (pair ∷ pairs) users =
    (record { page = pair.0; content = record { lsn = pair.1; user = take (user_length shape) users } })
    ∷ batch_of shape pairs (drop (user_length shape) users)

-- the pages once the batch is written
abbrev pub after_batch : List Fresh → (ℕ → Content) → ℕ → Content
after_batch [] was p = was p
after_batch (new ∷ batch) was p = if new.page == p then new.content else after_batch batch was p

-- No copy that is there is newer than the page that the batch has, or of its lsn with other user bytes.
pub record AreNotNewer (copies : ℕ → Content → Type 0) (batch : List Fresh) : Type 0 where
  pub no_newer : (p : ℕ) (old new : Content) → copies p old → IsNew batch p new → old.lsn ≤ new.lsn
  pub same : (p : ℕ) (old new : Content) → copies p old → IsNew batch p new → old.lsn ≡ new.lsn → old.user ≡ new.user

-- A device that a part can begin with: nothing is pending, each place holds its page, and each copy is up to a page.
pub record IsOpened (shape : Shape) (top was : ℕ → Content) (disk : Disk) : Type 0 where
  pub long : data_device_length shape ≤ length disk.base
  pub nothing_pending : HasNothingPending disk
  pub places : (p : ℕ) → p < shape.pages → IsInPlace shape disk.base p (was p)
  pub known : (p slot lsn : ℕ) → p < shape.pages → slot < shape.slots → copy_lsn shape disk.base p slot ≡ Some lsn → IsUpTo top p (copied shape disk.base slot lsn)

-- no copy of a page of the batch that passes is newer than the batch has it, or of its lsn with other user bytes
pub record HasNoNewer (shape : Shape) (batch : List Fresh) (image : List ℕ) : Type 0 where
  pub no_newer : (p slot lsn : ℕ) (new : Content) → p < shape.pages → slot < shape.slots → copy_lsn shape image p slot ≡ Some lsn → IsNew batch p new → lsn ≤ new.lsn
  pub same : (p slot lsn : ℕ) (new : Content) → p < shape.pages → slot < shape.slots → copy_lsn shape image p slot ≡ Some lsn → IsNew batch p new → lsn ≡ new.lsn
      → user_part (slot_bytes shape slot image) ≡ new.user

-- nothing is pending, each place holds its page, and no copy is newer than the batch has its page
pub record IsBefore (shape : Shape) (was : ℕ → Content) (batch : List Fresh) (disk : Disk) : Type 0 where
  pub steady : IsSteady shape was disk
  pub copies : HasNoNewer shape batch disk.base

-- in each fair image each page is kept as it was or as the batch has it, and another page as it was
abbrev pub KeepsPages : Shape → (ℕ → Content) → List Fresh → Disk → Type 0
KeepsPages shape was batch disk = (image : List ℕ) (p : ℕ) → IsFair shape disk image → p < shape.pages → KeepsPage shape was batch image p

-- Each page is kept, as it was or as the batch has it, and nothing else is kept; no copy is of anything else but older.
pub record CrashKeeps (shape : Shape) (top was : ℕ → Content) (batch : List Fresh) (image : List ℕ) : Type 0 where
  pub long : data_device_length shape ≤ length image
  pub pages : (p : ℕ) → p < shape.pages → KeepsPage shape was batch image p
  pub only : (p : ℕ) (content : Content) → p < shape.pages → IsKept shape image p content → IsOldOrNew was batch p content
  pub not_lost : (p : ℕ) → p < shape.pages → IsLost shape image p → ⊥
  pub known : (p slot lsn : ℕ) → p < shape.pages → slot < shape.slots → copy_lsn shape image p slot ≡ Some lsn
      → IsKnown (IsUpTo top) batch p (copied shape image slot lsn)

-- the pages of a store as they are read
abbrev pub read_as : Reading → ℕ → Content
read_as reading p = get_or reading.pages p (blank_page reading.shape)

-- each page was as it was kept on the device before, or is as it was read; and the batch at hand has it as it was read
pub record IsWrittenOver (opened : Reading) (old : List ℕ) (was : ℕ → Content) (batch : List Fresh) : Type 0 where
  pub before : (p : ℕ) → p < opened.shape.pages → IsKept opened.shape old p (was p) ⊎ (was p ≡ read_as opened p)
  pub as_read : (p : ℕ) (content : Content) → IsNew batch p content → content ≡ read_as opened p
