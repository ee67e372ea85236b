-- What the parts of restoring come to.
use Rattle.std.proofs.Common.{◌≡◌, ◌<◌, ◌⊎◌, ℕ, List, Option, Some, refl, sym, subst}
use Rattle.model_device.specs.{Disk}
use Rattle.model_page.specs.declared.content.Content.{Content}
use Rattle.model_archive.specs.{AreBasePages, HasExtent, IsFirstShort, IsFirstUnsound, IsReachedBy, IsRestored, RefusesRestore}
use Rattle.model_archive.specs.declared.extent.Extent.{Extent}
use Rattle.model_archive.specs.declared.refusal.RestoreRefusal.TheVariants as refusal
use Rattle.redo_disk.specs.{Call, Seen}
use Rattle.redo_disk.specs.declared.error.DevError.{DevError}
use Rattle.redo_disk.specs.declared.error.DevError.TheVariants as device
use Rattle.redo_recover.specs.Devices.{IsOnlyRead, OnContent}
use Rattle.redo_recover.proofs.Contents.{content-both, content-weaker}
use Rattle.redo_archive.specs.Restoring.{device_error, HasRestoreCause, IsBaseFault, IsBlocksFault, IsExtentFault, IsRestoredBy, restore_fault}
use Rattle.redo_archive.specs.declared.restored.Restored.{Restored}
use Rattle.redo_archive.specs.declared.restored.RestoreFault.{RestoreFault}
use Rattle.redo_archive.specs.declared.restored.RestoreFault.TheVariants.{Missing, To, Page, Block, Record, Dev, NoMemory}

-- the fault of a program whose device answered this
pub device-fault : (error : DevError) → device_error (restore_fault error) ≡ Some error
device-fault device.Failed = refl
device-fault device.NoMemory = refl

pub only-fault : {D : Type 0} {seen : D → Seen} {gives : D → Call → D → Type 0} (old new : D) (error : DevError)
    → IsOnlyRead seen gives old (Some error) new → IsOnlyRead seen gives old (device_error (restore_fault error)) new
only-fault {seen = seen} {gives = gives} old new error read =
    subst (λ (answer : Option DevError). IsOnlyRead seen gives old answer new) (sym (device-fault error)) read

-- there is no archive
pub extent-refused : (told : Option Disk) (lsn : ℕ) (fault : RestoreFault) → IsExtentFault told fault
    → HasRestoreCause told lsn fault
extent-refused told lsn Missing is = is
extent-refused told lsn (To l) is = absurd is
extent-refused told lsn (Page p) is = absurd is
extent-refused told lsn (Block l) is = absurd is
extent-refused told lsn (Record l) is = absurd is
extent-refused told lsn Dev is = tt
extent-refused told lsn NoMemory is = tt

-- the lsn is out of the archive's reach
pub to-refused : (told : Option Disk) (extent : Extent) (lsn : ℕ) → OnContent told (λ image. HasExtent image extent)
    → (lsn < extent.start) ⊎ (extent.mark < lsn) → HasRestoreCause told lsn (To lsn)
to-refused told extent lsn has out =
    content-weaker told (λ image. HasExtent image extent) (λ image. RefusesRestore image lsn (refusal.To lsn))
    (λ image is. (extent, is, out, refl)) has

-- a page doesn't pass
pub base-refused : (told : Option Disk) (extent : Extent) (lsn : ℕ) (fault : RestoreFault) → IsReachedBy extent lsn
    → OnContent told (λ image. HasExtent image extent) → IsBaseFault extent.shape told fault
    → HasRestoreCause told lsn fault
base-refused told extent lsn Missing reached has is = absurd is
base-refused told extent lsn (To l) reached has is = absurd is
base-refused told extent lsn (Page p) reached has is =
    content-both told (λ image. HasExtent image extent) (λ image. IsFirstUnsound extent.shape image p)
    (λ image. RefusesRestore image lsn (refusal.Page p)) (λ image head first. (extent, head, reached, first)) has is
base-refused told extent lsn (Block l) reached has is = absurd is
base-refused told extent lsn (Record l) reached has is = absurd is
base-refused told extent lsn Dev reached has is = tt
base-refused told extent lsn NoMemory reached has is = tt

-- the head, the marks and the pages pass
pub record HasPages (extent : Extent) (pages : List Content) (image : List ℕ) : Type 0 where
  pub has_extent : HasExtent image extent
  pub pages_are : AreBasePages extent.shape image pages

pub pages-on : (told : Option Disk) (extent : Extent) (pages : List Content)
    → OnContent told (λ image. HasExtent image extent) → OnContent told (λ image. AreBasePages extent.shape image pages)
    → OnContent told (HasPages extent pages)
pages-on told extent pages has are =
    content-both told (λ image. HasExtent image extent) (λ image. AreBasePages extent.shape image pages)
    (HasPages extent pages) (λ image head bases. record { has_extent = head; pages_are = bases }) has are

-- a block doesn't, or a group
pub blocks-refused : (told : Option Disk) (extent : Extent) (pages : List Content) (lsn : ℕ) (fault : RestoreFault)
    → IsReachedBy extent lsn → OnContent told (HasPages extent pages) → IsBlocksFault extent told fault
    → HasRestoreCause told lsn fault
blocks-refused told extent pages lsn Missing reached begun is = absurd is
blocks-refused told extent pages lsn (To l) reached begun is = absurd is
blocks-refused told extent pages lsn (Page p) reached begun is = absurd is
blocks-refused told extent pages lsn (Block l) reached begun is =
    content-both told (HasPages extent pages) (λ image. IsFirstShort extent image l)
    (λ image. RefusesRestore image lsn (refusal.Block l))
    (λ image head first. (extent, head.has_extent, reached, (pages, head.pages_are), first)) begun is
blocks-refused told extent pages lsn (Record l) reached begun is =
    content-both told (HasPages extent pages) _ (λ image. RefusesRestore image lsn (refusal.Record l))
    (λ image head bad. (extent, head.has_extent, reached, (pages, head.pages_are), bad.0, bad.1)) begun is
blocks-refused told extent pages lsn Dev reached begun is = tt
blocks-refused told extent pages lsn NoMemory reached begun is = tt

-- all of it does
pub restored-on : (told : Option Disk) (extent : Extent) (pages : List Content) (lsn : ℕ) (restored : Restored)
    → IsReachedBy extent lsn → OnContent told (HasPages extent pages)
    → OnContent told (IsRestoredBy extent lsn pages restored)
    → OnContent told (λ image. IsRestored image lsn restored.n restored.end restored.pages)
restored-on told extent pages lsn restored reached begun is =
    content-both told (HasPages extent pages) (IsRestoredBy extent lsn pages restored)
    (λ image. IsRestored image lsn restored.n restored.end restored.pages)
    (λ image head by. record {
      extent = extent;
      pages = pages;
      wholes = by.applied.wholes;
      archive = record {
        has_extent = head.has_extent;
        pages_are = head.pages_are;
        blocks = by.blocks;
        rest = by.rest;
        groups = by.applied.so_far.groups;
        front = by.front;
      };
      reached = reached;
      n_is = by.applied.n_is;
      end_is = by.applied.end_is;
      pages_are = by.applied.pages_are;
    }) begun is
