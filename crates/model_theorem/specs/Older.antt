-- The checkpoint that opening found on the log device, by which a run's own is newer.
use Rattle.std.specs.Prelude.{ℕ, ◌<◌}
use Rattle.model_base.specs.declared.shape.Shape.{Shape}
use Rattle.model_device.specs.{Disk}
use Rattle.model_theorem.specs.Run.{HasFound}

-- at its last good sync the log device held a newest checkpoint, of a lower number than this
pub record HeldOlder (shape : Shape) (number : ℕ) (disk : Disk) : Type 0 where
  pub was : Shape
  pub found : ℕ
  pub ckpt : ℕ
  pub newest : HasFound shape was found ckpt disk
  pub older : found < number
