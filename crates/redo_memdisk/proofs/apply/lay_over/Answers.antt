use Rattle.std.proofs.Common.{◌≡◌, ◌-◌, ◌+◌, length, min, ap, ◌∙◌}
use Rattle.redo_memdisk.proofs.Overlay.{part-overwritten, part-overwritten_apart}
use Rattle.redo_memdisk.proofs.apply.lay_over.Goals as goal
use borrow.Rule.Slice.PartMut.{put_mid}

pub returns-then-from-to : goal.returns-then-from-to
returns-then-from-to c = λ row here there shows.
    let from = c.max-from.result in
    let to = c.min-to.result in
    let at = c.args.at in
    let write = c.args.write.now in
    let same : length c.as_slice-bytes.result.now ≡ length write.bytes = ap length c.as_slice-bytes.ensures in
    let to_is : to ≡ min (write.at + length write.bytes) (at + length c.args.out.now) = rw (← same) c.min-to.ensures in
    ap (λ part. put_mid (from - at) (to - at - (from - at)) c.args.out.now part) (rw c.as_slice-bytes.ensures at c.copy_from_slice.ensures.after)
    ∙ part-overwritten row write.bytes c.args.out.now at write.at from to here there shows c.max-from.ensures to_is c.if-from-to.true

pub returns-else-from-to : goal.returns-else-from-to
returns-else-from-to c = λ row here there shows.
    let write = c.args.write.now in
    let same : length c.as_slice-bytes.result.now ≡ length write.bytes = ap length c.as_slice-bytes.ensures in
    let to_is : c.min-to.result ≡ min (write.at + length write.bytes) (c.args.at + length c.args.out.now) = rw (← same) c.min-to.ensures in
    part-overwritten_apart row write.bytes c.args.out.now c.args.at write.at c.max-from.result c.min-to.result here there shows
    c.max-from.ensures to_is c.if-from-to.false
