use Rattle.std.proofs.Common.{◌≡◌, ◌<◌, ◌+◌, ◌/◌, ◌%◌, length, ap, ◌∙◌, arith}
use Rattle.std.proofs.lemmas.List.{take_all}
use Rattle.model_base.specs.declared.limits.TheConstants.{BLOCK_SIZE}
use Rattle.model_device.specs.{after_writes, left_of, sector_writes}
use Rattle.redo_memdisk.proofs.Left.{after_writes-left_more, length-sector_writes}
use Rattle.redo_memdisk.proofs.apply.apply_sectors.Goals as goal

pub loop-k-preserved : goal.loop-k-preserved
loop-k-preserved c =
    let same : length c.as_slice-bytes.result.now ≡ length c.args.write.now.bytes = ap length c.as_slice-bytes.ensures in
    let below : c.loop-k.k < length c.args.write.now.bytes / BLOCK_SIZE = omega arith in
    record {
      next = omega arith;
      left = c.put.ensures ∙ after_writes-left_more c.args.row.now c.args.cut c.args.pick c.args.bit c.loop-k.next c.loop-k.k c.left-count.result c.args.write.now (omega arith) below
          c.loop-k.invariant.next c.left-count.ensures c.loop-k.row c.as_slice-bytes.result.now c.loop-k.invariant.left c.as_slice-bytes.ensures;
    }

pub returns-clause-left : goal.returns-clause-left
returns-clause-left c =
    let same : length c.as_slice-bytes.result.now ≡ length c.args.write.now.bytes = ap length c.as_slice-bytes.ensures in
    let all = take_all c.loop-k.k (sector_writes c.args.write.now) (omega (arith, length-sector_writes c.args.write.now)) in
    c.loop-k.invariant.left ∙ ap (λ l. after_writes c.args.row.now (left_of c.args.cut c.args.pick c.args.bit l)) all

pub returns-clause-next : goal.returns-clause-next
returns-clause-next c =
    let same : length c.as_slice-bytes.result.now ≡ length c.args.write.now.bytes = ap length c.as_slice-bytes.ensures in
    let all : c.loop-k.k ≡ length (sector_writes c.args.write.now) = omega (arith, length-sector_writes c.args.write.now) in
    c.loop-k.invariant.next ∙ ap (λ k. (c.args.bit + k) % 64) all
