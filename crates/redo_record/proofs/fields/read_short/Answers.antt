use Rattle.std.proofs.Common.{arith}
use Rattle.redo_record.proofs.Leaves.{short_part}
use Rattle.redo_record.proofs.fields.read_short.Goals as goal

pub returns-in_default : goal.returns-in_default
returns-in_default c = short_part c.args.bytes.now (λ i. omega (arith, c.type_inv.bytes i)) (omega arith)
