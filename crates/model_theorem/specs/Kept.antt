-- What the data device of a run keeps of the pages, in whatever fair image a crash may leave.
-- The data device of a run that cleans pages in batches: each page is kept as it was last written, or as the batch at
-- hand has it.
use Rattle.std.specs.Prelude.{ℕ, ◌≡◌, ◌≤◌, ◌<◌, ◌⊎◌, true, List, Some, length, slice_get, Option, None}
use Rattle.std.specs.List.{AllByRecursion}
use Rattle.model_base.specs.declared.shape.Shape.{Shape}
use Rattle.model_log.specs.declared.group.Whole.{Whole}
use Rattle.model_device.specs.{Disk}
use Rattle.model_page.specs.{copy_lsn, data_device_length, IsKept, slot_bytes, user_part}
use Rattle.model_page.specs.declared.content.Content.{Content}
use Rattle.model_store.specs.{IsFair, IsNoNewerCopy, touches, upto}

-- each of the groups that touches page p and starts below the checkpoint ends at or below the lsn q
abbrev pub HasPassed : ℕ → List Whole → ℕ → ℕ → Type 0
HasPassed p wholes ckpt q =
    AllByRecursion (λ (whole : Whole). touches p whole.group ≡ true → whole.start < ckpt → whole.end ≤ q) wholes

-- A prefix of the run: page p as it was opened, with exactly those groups applied that end at or below its lsn, which is
-- at most the stable mark.
pub record IsPrefixOf (page : Content) (wholes : List Whole) (stable p : ℕ) (content : Content) : Type 0 where
  pub prefix : content ≡ upto p content.lsn wholes page
  pub behind : content.lsn ≤ stable

-- a prefix that lacks no group that starts below the checkpoint
pub record IsKeptPrefix (page : Content) (wholes : List Whole) (stable ckpt p : ℕ) (content : Content) : Type 0 where
  pub is_prefix : IsPrefixOf page wholes stable p content
  pub passed : HasPassed p wholes ckpt content.lsn

-- what a slot holds of a page, by the lsn that its copy has
abbrev pub copy_of : Shape → List ℕ → ℕ → ℕ → Content
copy_of shape image slot lsn = record { lsn = lsn; user = user_part (slot_bytes shape slot image) }

-- a copy of page p, of which this lsn is kept, is older, or a prefix of the run
abbrev pub IsOldCopy : Content → List Whole → ℕ → ℕ → ℕ → Content → Type 0
IsOldCopy page wholes stable p kept copy = (copy.lsn < kept) ⊎ IsPrefixOf page wholes stable p copy

-- the image keeps page p as a prefix of the run, and has no copy of it that is ahead
pub record KeepsPrefix (shape : Shape) (image : List ℕ) (page : Content) (wholes : List Whole) (stable ckpt p : ℕ) : Type 0 where
  pub content : Content
  pub kept : IsKept shape image p content
  pub is_prefix : IsKeptPrefix page wholes stable ckpt p content
  pub copies : (slot lsn : ℕ) → slot < shape.slots → copy_lsn shape image p slot ≡ Some lsn
      → IsOldCopy page wholes stable p content.lsn (copy_of shape image slot lsn)

-- The data device of a run: each fair image keeps each page as a prefix of the run, which no checkpoint passes.
pub record DataHolds (shape : Shape) (opened : List Content) (wholes : List Whole) (stable ckpt : ℕ) (disk : Disk) : Type 0 where
  pub long : data_device_length shape ≤ length disk.base
  pub keeps : (image : List ℕ) → IsFair shape disk image → (p : ℕ) (page : Content) → slice_get opened p ≡ Some page
      → KeepsPrefix shape image page wholes stable ckpt p

-- each fair image keeps the pages as they were opened, and has no copy that is ahead of one
pub record HasOpenedPages (shape : Shape) (opened : List Content) (disk : Disk) : Type 0 where
  pub long : data_device_length shape ≤ length disk.base
  pub keeps : (image : List ℕ) → IsFair shape disk image → (p : ℕ) (page : Content) → slice_get opened p ≡ Some page
      → IsKept shape image p page
  pub copies : (image : List ℕ) → IsFair shape disk image → (p slot lsn : ℕ) (page : Content) → slot < shape.slots
      → slice_get opened p ≡ Some page → copy_lsn shape image p slot ≡ Some lsn → IsNoNewerCopy shape image slot lsn page

-- the content is the page's last written one, or the one in the batch
abbrev pub IsEither : Content → Option Content → Content → Type 0
IsEither was None content = content ≡ was
IsEither was (Some new) content = (content ≡ was) ⊎ (content ≡ new)

-- the batch at hand, if it has the page: a prefix of the run, no older than what was written last
abbrev pub IsBatchPrefix : Content → List Whole → ℕ → ℕ → Content → Option Content → Type 0
IsBatchPrefix page wholes stable p was None = Unit {0}
IsBatchPrefix page wholes stable p was (Some new) = IsPrefixOf page wholes stable p new × (was.lsn ≤ new.lsn)

-- Page p was last written as `was`, and the batch at hand has it as `batch`, if it has it.
pub record IsPageStored (shape : Shape) (page : Content) (wholes : List Whole) (stable ckpt p : ℕ) (was : Content) (batch : Option Content) (disk : Disk) : Type 0 where
  pub last : IsKeptPrefix page wholes stable ckpt p was
  pub next : IsBatchPrefix page wholes stable p was batch
  pub kept : (image : List ℕ) → IsFair shape disk image → (content : Content) × IsKept shape image p content × IsEither was batch content
  pub copies : (image : List ℕ) (slot lsn : ℕ) → IsFair shape disk image → slot < shape.slots → copy_lsn shape image p slot ≡ Some lsn
      → (lsn < was.lsn) ⊎ IsEither was batch (copy_of shape image slot lsn)

-- all pages are stored so
pub record IsStored (shape : Shape) (opened : List Content) (wholes : List Whole) (stable ckpt : ℕ) (was : ℕ → Content) (batch : ℕ → Option Content) (disk : Disk) : Type 0 where
  pub long : data_device_length shape ≤ length disk.base
  pub each : (p : ℕ) (page : Content) → slice_get opened p ≡ Some page → IsPageStored shape page wholes stable ckpt p (was p) (batch p) disk
