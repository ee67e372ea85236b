use Rattle.std.proofs.Common.{◌≡◌, ◌%◌, length, take}
use Rattle.std.specs.List.{flat_map}
use Rattle.model_device.specs.{after_writes, left_of, sector_writes}
use Rattle.redo_memdisk.proofs.apply.apply_crash.Given as goal

abbrev pub invariant-loop-write : goal.invariant-loop-write
invariant-loop-write l = record {
  same_length : length l.row ≡ length l.initial.row;
  bit : l.bit ≡ length (flat_map sector_writes (take l.write-index l.writes)) % 64;
  left : l.row ≡ after_writes l.initial.row (left_of l.cut l.pick 0 (flat_map sector_writes (take l.write-index l.writes)));
}
