-- Which images of the data device are fair.
use Rattle.std.proofs.Common.{inl, refl, arith}
use Rattle.model_base.specs.declared.shape.Shape.{Shape}
use Rattle.model_device.specs.{Disk}
use Rattle.model_store.specs.Fair.{IsFair}

-- what stood there at the last good sync is
pub base-fair : (shape : Shape) (disk : Disk) → IsFair shape disk disk.base
base-fair shape disk = record {
  possible = record { same_length = refl; each = λ k h. inl refl };
  each = λ n h sound. record { count = 0; some = omega arith; same = refl };
}
