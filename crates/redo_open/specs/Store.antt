-- What a step of opening on the data part leaves, whatever it answers.
use Rattle.std.specs.Prelude.{◌≡◌, None, Result, OnOk}
use Rattle.model_base.specs.declared.shape.Shape.{Shape}
use Rattle.model_parts.specs.{KeepsAll}
use Rattle.model_device.specs.{Disk}
use Rattle.redo_disk.specs.{HasCause, OnTold, Seen}
use Rattle.redo_disk.specs.declared.error.DevError.{DevError}
use Rattle.redo_store.specs.Part.{Part}

-- A repair, which does this where it answers Ok. At each exit every fair image keeps the pages that were kept and the
-- slots, the sizes stay, and a failure has its cause.
pub record MendStep {D : Type 0} (seen : D → Seen) (shape : Shape) (Does : Disk → Disk → Type 0) (old : Part D) (result : Result (Unit {0}) DevError) (new : Part D) : Type 0 where
  pub keeps : OnTold (seen old.dev).tells (seen new.dev).tells (KeepsAll shape)
  pub ok : OnOk result (OnTold (seen old.dev).tells (seen new.dev).tells Does)
  pub live : OnOk result (new.failed ≡ None)
  pub shape_stays : new.shape ≡ old.shape
  pub size : (seen new.dev).size ≡ (seen old.dev).size
  pub cause : HasCause (seen old.dev).faults (seen new.dev).faults result
