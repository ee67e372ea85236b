-- At most eight bytes make a number that fits.
use Rattle.std.proofs.Common.{arith}
use Rattle.model_base.proofs.ByteLemmas.{AreBytes-from_fits, number_fits}
use Rattle.redo_num.proofs.get.number_from_bytes.Goals as goal

pub overflow_mul-number : goal.overflow_mul-number
overflow_mul-number c =
    omega (arith, number_fits c.args.bytes.now (AreBytes-from_fits c.args.bytes.now c.type_inv.bytes) c.requires c.loop-byte.byte-index c.loop-byte-test.true)

pub overflow_add-number : goal.overflow_add-number
overflow_add-number c =
    omega (arith, number_fits c.args.bytes.now (AreBytes-from_fits c.args.bytes.now c.type_inv.bytes) c.requires c.loop-byte.byte-index c.loop-byte-test.true)
