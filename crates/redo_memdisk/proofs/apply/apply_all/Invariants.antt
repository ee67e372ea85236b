use Rattle.std.proofs.Common.{◌≡◌, length, take}
use Rattle.model_device.specs.{after_writes}
use Rattle.redo_memdisk.proofs.apply.apply_all.Given as goal

abbrev pub invariant-loop-write : goal.invariant-loop-write
invariant-loop-write l = record {
  same_length : length l.row ≡ length l.initial.row;
  done : l.row ≡ after_writes l.initial.row (take l.write-index l.writes);
}
