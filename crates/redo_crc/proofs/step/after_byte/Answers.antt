-- The table's step is eight steps of a bit.
use Rattle.redo_crc.proofs.TableLemmas.{by_table}
use Rattle.std.proofs.Common.{[], arith}
use Rattle.redo_crc.proofs.step.after_byte.Goals as goal

pub returns : goal.returns
returns c = rw c.from.ensures (by_table c.args.register c.args.byte [] (omega arith))
