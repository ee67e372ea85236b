use Rattle.std.proofs.Common.{◌≡◌, ◌+◌, ◌≤◌, length, take, refl, ◌∙◌, arith}
use Rattle.model_device.specs.{after_writes}
use Rattle.redo_memdisk.proofs.Applied.{IsWithin-item, after_writes_more, length-after_first_writes}
use Rattle.redo_memdisk.proofs.apply.read_through.Goals as goal

pub loop-write-preserved : goal.loop-write-preserved
loop-write-preserved c =
    let row = after_writes c.args.row.now (take c.loop-write.write-index c.args.writes.now) in
    let size : c.args.at + length c.loop-write.out ≤ length row =
    omega (arith, length-after_first_writes c.args.row.now c.args.writes.now c.loop-write.write-index c.requires.within) in
    let within = IsWithin-item c.args.row.now c.args.writes.now c.loop-write.write-index c.write-item.result (omega arith) c.write-item.is c.requires.within in
    let more = after_writes_more c.args.row.now c.args.writes.now c.loop-write.write-index c.write-item.result (omega arith) c.write-item.is in
    let same : length c.lay_over.new.out ≡ length c.loop-write.out = omega arith in
    c.lay_over.ensures row size within c.loop-write.invariant ∙ rw (more, same) refl
