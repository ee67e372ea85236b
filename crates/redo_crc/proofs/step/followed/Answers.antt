-- The table's entry.
use Rattle.std.proofs.Common.{arith}
use Rattle.redo_crc.proofs.TableLemmas.{table_at}
use Rattle.redo_crc.proofs.step.followed.Goals as goal

pub returns : goal.returns
returns c = rw c.from.ensures (table_at c.args.zeros c.args.byte _ (omega (arith, c.requires)) (omega arith))
