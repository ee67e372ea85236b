use Rattle.std.proofs.Common.{◌≡◌, ◌+◌, ◌%◌, take}
use Rattle.model_device.specs.{after_writes, left_of, sector_writes}
use Rattle.redo_memdisk.proofs.apply.apply_sectors.Given as goal

abbrev pub invariant-loop-k : goal.invariant-loop-k
invariant-loop-k l = record {
  next : l.next ≡ (l.bit + l.k) % 64;
  left : l.row ≡ after_writes l.initial.row (left_of l.cut l.pick l.bit (take l.k (sector_writes l.write)));
}
