-- How a step on the data part ends.
use Rattle.std.proofs.Common.{◌≡◌, ◌≤◌, ◌∙◌, ℕ, Err, refl}
use Rattle.std.specs.Prelude.{IsErrOf}
use Rattle.model_base.specs.declared.shape.Shape.{Shape}
use Rattle.model_parts.specs.{KeepsAll}
use Rattle.redo_disk.specs.{OnTold, Seen}
use Rattle.redo_disk.specs.declared.error.DevError.{DevError}
use Rattle.redo_disk.specs.declared.error.DevError.TheVariants as device
use Rattle.redo_open.specs.Mend.{IsMended, AreMended}
use Rattle.redo_open.specs.Places.{IsPageFault}
use Rattle.redo_open.specs.Store.{MendStep}
use Rattle.redo_open.proofs.Mends.{keeps-behind}
use Rattle.redo_disk.proofs.Told.{OnTold-then}
use Rattle.redo_open.proofs.Told.{cause-since}
use Rattle.redo_recover.specs.{data_fault_of}
use Rattle.redo_recover.specs.declared.fault.RecFault.TheVariants.{DataDev}
use Rattle.redo_store.specs.Part.{Part}

-- THE FAULTS OF THE DATA DEVICE.

pub device-own : (error : DevError) → IsPageFault (data_fault_of error)
device-own device.Failed = tt
device-own device.NoMemory = tt

pub device-failed : (error : DevError) → IsErrOf {T = Unit {0}} (Err (data_fault_of error)) DataDev → error ≡ device.Failed
device-failed device.Failed is = refl
device-failed device.NoMemory is = absurd cc

-- A REPAIR.

-- what stays: the sizes, and that the count of faults doesn't fall
pub record Stays {D : Type 0} (seen : D → Seen) (old new : Part D) : Type 0 where
  pub shape : new.shape ≡ old.shape
  pub size : (seen new.dev).size ≡ (seen old.dev).size
  pub later : (seen old.dev).faults ≤ (seen new.dev).faults

-- mending failed at a page after others that were mended
pub mend-behind : {D : Type 0} (seen : D → Seen) (shape : Shape) (count page all : ℕ) (old mid new : Part D) (error : DevError)
    → OnTold (seen old.dev).tells (seen mid.dev).tells (AreMended shape count) → Stays seen old mid
    → MendStep seen shape (IsMended shape page) mid (Err error) new → MendStep seen shape (AreMended shape all) old (Err error) new
mend-behind seen shape count page all old mid new error told stays step = record {
  keeps = OnTold-then _ _ _ (AreMended shape count) (KeepsAll shape) (KeepsAll shape) (λ a b c mended keeps. keeps-behind shape count a b c mended keeps) told step.keeps;
  ok = tt;
  live = tt;
  shape_stays = step.shape_stays ∙ stays.shape;
  size = step.size ∙ stays.size;
  cause = cause-since (seen old.dev).faults (seen mid.dev).faults (seen new.dev).faults (Err error) stays.later step.cause;
}
