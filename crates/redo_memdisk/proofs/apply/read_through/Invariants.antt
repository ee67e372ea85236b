use Rattle.std.proofs.Common.{◌≡◌, length, take}
use Rattle.model_device.specs.{after_writes}
use Rattle.redo_disk.specs.{part}
use Rattle.redo_memdisk.proofs.apply.read_through.Given as goal

abbrev pub invariant-loop-write : goal.invariant-loop-write
invariant-loop-write l = l.out ≡ part (after_writes l.row (take l.write-index l.writes)) l.at (length l.out)
