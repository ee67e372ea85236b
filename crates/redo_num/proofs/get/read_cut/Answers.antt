-- The ends of what the bytes at hand can become, against the ends of the row.
use Rattle.std.proofs.Common.{arith, inl, inr}
use Rattle.model_base.proofs.ByteLemmas.{AreBytes-from_fits}
use Rattle.redo_num.proofs.ReadLemmas.{following_cut, following_fits, lowest_cut, lowest_fits, text_fits, row_bad, row_short}
use Rattle.redo_num.proofs.get.read_cut.Goals as goal

pub pow-following-requires : goal.pow-following-requires
pow-following-requires c =
    rw (← following_cut c.args.row c.args.bytes.now c.requires.cut) (omega (arith, following_fits c.args.row c.requires.row c.args.bytes.now))

pub overflow_mul-lowest : goal.overflow_mul-lowest
overflow_mul-lowest c =
    let all = AreBytes-from_fits c.args.bytes.now c.type_inv.bytes in
    let fits = lowest_fits c.args.row c.requires.row c.args.bytes.now all in
    rw (c.number_from_bytes.ensures, c.pow-following.ensures, ← lowest_cut c.args.row c.args.bytes.now c.requires.cut) (omega arith)

pub overflow_add-last : goal.overflow_add-last
overflow_add-last c = omega (arith, text_fits c.args.row c.requires.row)

pub overflow_add-lowest : goal.overflow_add-lowest
overflow_add-lowest c =
    let all = AreBytes-from_fits c.args.bytes.now c.type_inv.bytes in
    let fits = lowest_fits c.args.row c.requires.row c.args.bytes.now all in
    let unit = following_cut c.args.row c.args.bytes.now c.requires.cut in
    let low = lowest_cut c.args.row c.args.bytes.now c.requires.cut in
    rw (c.number_from_bytes.ensures, c.pow-following.ensures, ← low, ← unit) (omega arith)

pub returns-then-last-lowest : goal.returns-then-last-lowest
returns-then-last-lowest c =
    let unit = following_cut c.args.row c.args.bytes.now c.requires.cut in
    let low = lowest_cut c.args.row c.args.bytes.now c.requires.cut in
    let ends = rw (c.number_from_bytes.ensures, c.pow-following.ensures, c.from.ensures, ← low, ← unit) at c.if-last-lowest.either in
    row_bad c.args.row c.requires.row c.args.bytes.now (elim ends [ inl under ↦ inl under | inr over ↦ inr over.1 ])

pub returns-else-last-lowest : goal.returns-else-last-lowest
returns-else-last-lowest c =
    let unit = following_cut c.args.row c.args.bytes.now c.requires.cut in
    let low = lowest_cut c.args.row c.args.bytes.now c.requires.cut in
    let ends = rw (c.number_from_bytes.ensures, c.pow-following.ensures, c.from.ensures, ← low, ← unit) at c.if-last-lowest.false in
    let all = AreBytes-from_fits c.args.bytes.now c.type_inv.bytes in
    row_short c.args.row c.requires.row c.args.bytes.now all c.requires.cut ends.0 ends.1
