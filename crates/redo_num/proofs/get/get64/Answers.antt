-- The high half, and the four bytes after it.
use Rattle.std.proofs.Common.{◌≡◌, ◌+◌, ◌-◌, arith}
use Rattle.model_base.proofs.ByteLemmas.{AreBytes-from_fits}
use Rattle.redo_num.proofs.HalfLemmas.{low_half_fits, read_both, read_half, read_front, read_bad}
use Rattle.redo_num.proofs.get.get64.Goals as goal

pub overflow_add-result : goal.overflow_add-result
overflow_add-result c =
    let all = AreBytes-from_fits c.args.bytes.now c.type_inv.bytes in
    let four : (c.in-Value.len + 4) - c.in-Value.len ≡ 4 = omega arith in
    let low = low_half_fits c.args.bytes.now all c.in-Value.len in
    let high = c.in-Value.ensures.1.small in
    rw (c.number_from_bytes-low.ensures, c.from.ensures, four) (omega arith)

pub returns-in-Value : goal.returns-in-Value
returns-in-Value c =
    let all = AreBytes-from_fits c.args.bytes.now c.type_inv.bytes in
    let within = c.in-Value.ensures.0 in
    let four : c.in-Value.len + 4 - c.in-Value.len ≡ 4 = omega arith in
    rw (c.number_from_bytes-low.ensures, c.from.ensures, four) (read_both c.args.bytes.now all c.in-Value.high c.in-Value.len c.in-Value.ensures (omega arith))

pub returns-in-Value-2 : goal.returns-in-Value-2
returns-in-Value-2 c =
    let all = AreBytes-from_fits c.args.bytes.now c.type_inv.bytes in
    let within = c.in-Value.ensures.0 in
    read_half c.args.bytes.now all c.in-Value.high c.in-Value.len c.in-Value.ensures (omega arith)

pub returns-in-Short : goal.returns-in-Short
returns-in-Short c = read_front c.args.bytes.now c.in-Short.ensures

pub returns-in-Bad : goal.returns-in-Bad
returns-in-Bad c = read_bad c.args.bytes.now c.in-Bad.ensures
