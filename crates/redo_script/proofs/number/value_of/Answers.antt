use Rattle.std.proofs.Common.{arith}
use Rattle.redo_script.proofs.NumberLemmas.{too_large}
use Rattle.redo_script.proofs.number.value_of.Goals as goal

pub returns-in_default : goal.returns-in_default
returns-in_default c =
    too_large c.args.digits.now c.loop-digit.digit-index c.loop-digit.value (omega arith) c.loop-digit.invariant.0 c.in_default.ensures
