use Rattle.std.proofs.Common.{◌≡◌, ℕ, ◌<◌, ◌⊎◌}
use Rattle.model_device.specs.{IsCovered, sector}
use Rattle.redo_memdisk.proofs.image.is_image.Given as goal

abbrev pub invariant-loop-k : goal.invariant-loop-k
invariant-loop-k l = (k : ℕ) → k < l.k → (sector k l.image ≡ sector k l.base) ⊎ IsCovered l.writes k
