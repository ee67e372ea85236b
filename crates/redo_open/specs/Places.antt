-- The data device while its part is opened: places repaired, then pages written.
use Rattle.std.specs.Prelude.{ℕ, ◌≡◌, ◌≤◌, ◌<◌, ◌⊎◌, false, List, [], Option, None, Result, OnOk, IfErr, IfSome, IsErrOf}
use Rattle.model_base.specs.{HasRisen}
use Rattle.model_base.specs.declared.shape.Shape.{Shape}
use Rattle.model_parts.specs.{IsRewriting, IsUpTo, read_as}
use Rattle.model_parts.specs.Stored.{Stored}
use Rattle.model_device.specs.{settled, Disk}
use Rattle.model_page.specs.{IsKept}
use Rattle.model_page.specs.declared.content.Content.{Content}
use Rattle.model_store.specs.{IsFair, IsOrderly, Reading}
use Rattle.redo_disk.specs.{Seen}
use Rattle.redo_open.specs.Rewrite.{AreTop, IsWrittenTo}
use Rattle.redo_recover.specs.declared.fault.RecFault.{RecFault}
use Rattle.redo_recover.specs.declared.fault.RecFault.TheVariants.{DataDev, NoMemory}
use Rattle.redo_recover.specs.declared.places.Found.{Found}
use Rattle.redo_store.specs.Part.{Part}

-- an orderly store is read as this, of this shape and with these pages
pub record IsReadAs (shape : Shape) (pages : List Content) (log_bytes data_bytes : List ℕ) (opened : Reading) : Type 0 where
  pub shape_is : opened.shape ≡ shape
  pub pages_are : opened.pages ≡ pages
  pub orderly : IsOrderly log_bytes data_bytes opened

-- each fair image of the device is one that is being rewritten
abbrev pub KeepsPlaces : Shape → List ℕ → Reading → Disk → Type 0
KeepsPlaces shape data_bytes opened disk = (image : List ℕ) → IsFair shape disk image → IsRewriting opened data_bytes image

-- each place holds its page as it was read, and nothing is pending
abbrev pub HoldsPlaces : Shape → Reading → Disk → Type 0
HoldsPlaces shape opened disk = Stored shape (IsUpTo (read_as opened)) (read_as opened) [] false disk

-- where pages may begin to be written: from what the places hold
pub record MayBeWritten (shape : Shape) (pages : List Content) (found : List Found) (data_bytes : List ℕ) (opened : Reading) (told : Option Disk) : Type 0 where
  pub start : ℕ → Content
  pub tops : AreTop pages found (read_as opened) start
  pub written : IsWrittenTo shape (read_as opened) start 0 told
  pub kept : (p : ℕ) → p < shape.pages → IsKept shape data_bytes p (start p) ⊎ (start p ≡ read_as opened p)

-- the opening of the data part ends early where the data device fails or memory runs out, and for nothing else
abbrev pub IsPageFault : RecFault → Type 0
IsPageFault DataDev = Unit {0}
IsPageFault NoMemory = Unit {0}
IsPageFault _ = ⊥

-- The opening of the data part. At each exit each fair image is read with the same pages; a fault has its cause.
pub record PlacesStep {D : Type 0} (seen : D → Seen) (shape : Shape) (pages : List Content) (old : Part D) (result : Result (Unit {0}) RecFault) (new : Part D) : Type 0 where
  pub keeps : (log_bytes data_bytes : List ℕ) (opened : Reading) → IsReadAs shape pages log_bytes data_bytes opened
      → IfSome (seen old.dev).tells (λ disk. disk ≡ settled data_bytes) → IfSome (seen new.dev).tells (KeepsPlaces shape data_bytes opened)
  pub ok : (log_bytes data_bytes : List ℕ) (opened : Reading) → IsReadAs shape pages log_bytes data_bytes opened
      → IfSome (seen old.dev).tells (λ disk. disk ≡ settled data_bytes) → OnOk result (IfSome (seen new.dev).tells (HoldsPlaces shape opened))
  pub live : OnOk result (new.failed ≡ None)
  pub own : IfErr result IsPageFault
  pub shape_stays : new.shape ≡ old.shape
  pub size : (seen new.dev).size ≡ (seen old.dev).size
  pub later : (seen old.dev).faults ≤ (seen new.dev).faults
  pub failed : IsErrOf result DataDev → HasRisen (seen old.dev).faults (seen new.dev).faults
