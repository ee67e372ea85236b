use Rattle.std.proofs.Common.{◌≡◌, ◌+◌, ◌%◌, [], ◌∷◌, ◌++◌, length, take, ap, sym, ◌∙◌, arith}
use Rattle.std.specs.List.{flat_map}
use Rattle.std.proofs.lemmas.List.{take_more}
use Rattle.model_device.specs.{after_writes, left_of, sector_writes}
use Rattle.redo_memdisk.proofs.Left.{after_writes-crash_more, length-flat_map_push}
use Rattle.redo_memdisk.proofs.apply.apply_crash.Goals as goal

pub loop-write-preserved : goal.loop-write-preserved
loop-write-preserved c =
    let before = take c.loop-write.write-index c.args.writes.now in
    let write = c.write-item.result in
    let more : take (c.loop-write.write-index + 1) c.args.writes.now ≡ before ++ write ∷ [] =
    take_more c.args.writes.now c.loop-write.write-index write (omega arith) ∙ ap (λ w. before ++ w ∷ []) (sym c.write-item.is) in
    record {
      same_length = omega arith;
      bit = c.apply_sectors-bit.ensures.next ∙ length-flat_map_push c.loop-write.bit before write c.loop-write.invariant.bit ∙ ap (λ l. length (flat_map sector_writes l) % 64) (sym more);
      left = c.apply_sectors-bit.ensures.left
          ∙ ap (λ row. after_writes row (left_of c.args.cut c.args.pick c.loop-write.bit (sector_writes write))) c.loop-write.invariant.left
          ∙ sym (after_writes-crash_more c.args.row.now c.args.cut c.args.pick c.loop-write.bit before write c.loop-write.invariant.bit)
          ∙ ap (λ l. after_writes c.args.row.now (left_of c.args.cut c.args.pick 0 (flat_map sector_writes l))) (sym more);
    }
