-- Each device while a store of an earlier format gets the slots and places of a run, and then its headers.
use Rattle.std.specs.Prelude.{ℕ, ◌≡◌, ◌≤◌, List, length, Some, Result, OnOk, OnErr}
use Rattle.std.specs.List.{slice_index_or as get_or}
use Rattle.model_base.specs.{run_shape}
use Rattle.model_base.specs.declared.shape.Shape.{Shape}
use Rattle.model_device.specs.{IsImage, sector, settled, Disk}
use Rattle.model_page.specs.{blank_page, data_device_length, page_check, place_lsn_by, user_part}
use Rattle.model_page.specs.declared.content.Content.{Content}
use Rattle.model_parts.specs.{IsEnlarged, IsHeaded, IsHeading, KeepsStretches, place_at}
use Rattle.model_store.specs.{IsFairLog}
use Rattle.redo_disk.specs.{HasCause, OnTold, write_at, WriteStep, Seen}
use Rattle.redo_disk.specs.declared.error.DevError.{DevError}
use Rattle.redo_open.specs.Put.{IsAtRestTo}
use Rattle.redo_open.specs.declared.heads.TheConstants.{HEADS}

-- THE DATA DEVICE.

-- bytes that may stand in the place of a page that holds this
pub record IsPlaceText (shape : Shape) (page : ℕ) (content : Content) (text : List ℕ) : Type 0 where
  pub long : length text ≡ shape.page_size
  pub passes : place_lsn_by shape page (page_check text) ≡ Some content.lsn
  pub user : content.user ≡ user_part text

-- such bytes are written into the place of the page
pub record WritesPlace (shape : Shape) (page : ℕ) (content : Content) (old : Seen) (result : Result (Unit {0}) DevError)
    (new : Seen) : Type 0 where
  pub text : List ℕ
  pub is_text : IsPlaceText shape page content text
  pub step : WriteStep (write_at (place_at shape page) text) old result new

-- In each image of the device its old slots and places hold what they held.
abbrev pub KeepsOld : Shape → List ℕ → Disk → Type 0
KeepsOld shape content disk = (image : List ℕ) → IsImage disk image → KeepsStretches shape content image

-- nothing is pending, and the device has the slots and places of a run, and room for them
pub record HasEnlarged (shape : Shape) (pages : List Content) (content : List ℕ) (disk : Disk) : Type 0 where
  pub nothing_pending : disk ≡ settled disk.base
  pub long : data_device_length (run_shape shape) ≤ length disk.base
  pub enlarged : IsEnlarged shape (λ p. get_or pages p (blank_page shape)) content disk.base

-- The step, on a device on which nothing is pending.
pub record EnlargeStep (shape : Shape) (pages : List Content) (old : Seen) (result : Result (Unit {0}) DevError)
    (new : Seen) : Type 0 where
  pub keeps : OnTold old.tells new.tells (λ before after. before ≡ settled before.base
      → KeepsOld shape before.base after)
  pub ok : OnOk result
      (OnTold old.tells new.tells (λ before after. before ≡ settled before.base
      → HasEnlarged shape pages before.base after))
  pub size : new.size ≡ old.size
  pub cause : HasCause old.faults new.faults result

-- THE LOG DEVICE.

-- in each fair image of it the headers of a run are being put
abbrev pub PutsRunHeads : Shape → List ℕ → Disk → Type 0
PutsRunHeads shape content disk = (image : List ℕ) → IsFairLog disk image → IsHeading shape content image

-- nothing is pending, and both stand
pub record HasRunHeads (shape : Shape) (content : List ℕ) (disk : Disk) : Type 0 where
  pub nothing_pending : disk ≡ settled disk.base
  pub headed : IsHeaded shape content disk.base

-- The step, on a device that is at rest. Where it fails, the first header block is as it was at the last good sync.
pub record HeadStep (shape : Shape) (old : Seen) (result : Result (Unit {0}) DevError) (new : Seen) : Type 0 where
  pub keeps : OnTold old.tells new.tells (λ before after. IsAtRestTo HEADS before
      → PutsRunHeads shape before.reads after)
  pub ok : OnOk result
      (OnTold old.tells new.tells (λ before after. IsAtRestTo HEADS before → HasRunHeads shape before.reads after))
  pub unmoved : OnErr result
      (OnTold old.tells new.tells (λ before after. IsAtRestTo HEADS before
      → sector 0 after.base ≡ sector 0 before.reads))
  pub size : new.size ≡ old.size
  pub cause : HasCause old.faults new.faults result
