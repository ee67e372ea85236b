-- One text begins with the bytes, and it is compared with those of the row.
use Rattle.std.proofs.Common.{arith, inl, inr}
use Rattle.model_base.proofs.ByteLemmas.{AreBytes-from_fits, AreBytes-take}
use Rattle.redo_num.proofs.ReadLemmas.{following_whole, lowest_whole, row_bad, row_value}
use Rattle.redo_num.proofs.get.read_whole.Goals as goal

pub returns-then-last-text : goal.returns-then-last-text
returns-then-last-text c =
    let ends = rw (c.number_from_bytes-text.ensures, c.from.ensures) at c.if-last-text.either in
    let one = following_whole c.args.row c.args.bytes.now c.requires.whole in
    let low = lowest_whole c.args.row c.args.bytes.now c.requires.whole in
    row_bad c.args.row c.requires.row c.args.bytes.now
    (elim ends [ inl under ↦ inl (omega arith) | inr over ↦ inr (let above = over.1 in omega arith) ])

pub returns-else-last-text : goal.returns-else-last-text
returns-else-last-text c =
    let ends = rw (c.number_from_bytes-text.ensures, c.from.ensures) at c.if-last-text.false in
    let above = ends.0 in
    let below = ends.1 in
    let one = following_whole c.args.row c.args.bytes.now c.requires.whole in
    let low = lowest_whole c.args.row c.args.bytes.now c.requires.whole in
    let all = AreBytes-take c.args.row.length c.args.bytes.now (AreBytes-from_fits c.args.bytes.now c.type_inv.bytes) in
    rw (c.number_from_bytes-text.ensures, ← low) (row_value c.args.row c.requires.row c.args.bytes.now all c.requires.whole (omega arith) (omega arith))
