-- The row that the byte's range names.
use Rattle.std.proofs.Common.{arith, inl, inr}
use Rattle.model_base.proofs.TableLemmas.{seven_bits_from, fourteen_bits_from, twenty_one_bits_from, twenty_eight_bits_from, whole_from, low_24_bits_from, low_17_bits_from, low_10_bits_from, none_from}
use Rattle.redo_num.proofs.table.row_beginning_with.Goals as goal

pub returns-in-0-to-127 : goal.returns-in-0-to-127
returns-in-0-to-127 c = seven_bits_from c.args.byte (omega arith) (omega arith)

pub returns-in-128-to-191 : goal.returns-in-128-to-191
returns-in-128-to-191 c = fourteen_bits_from c.args.byte (omega arith) (omega arith)

pub returns-in-192-to-223 : goal.returns-in-192-to-223
returns-in-192-to-223 c = twenty_one_bits_from c.args.byte (omega arith) (omega arith)

pub returns-in-224-to-239 : goal.returns-in-224-to-239
returns-in-224-to-239 c = twenty_eight_bits_from c.args.byte (omega arith) (omega arith)

pub returns-in-240 : goal.returns-in-240
returns-in-240 c = whole_from c.args.byte (omega arith) (omega arith)

pub returns-in-254 : goal.returns-in-254
returns-in-254 c = low_24_bits_from c.args.byte (omega arith) (omega arith)

pub returns-in-252 : goal.returns-in-252
returns-in-252 c = low_17_bits_from c.args.byte (omega arith) (omega arith)

pub returns-in-248-to-251 : goal.returns-in-248-to-251
returns-in-248-to-251 c = low_10_bits_from c.args.byte (omega arith) (omega arith)

pub returns-in-241-to-247 : goal.returns-in-241-to-247
returns-in-241-to-247 c = none_from c.args.byte (inr (omega arith))

pub returns-in-241-to-247-2 : goal.returns-in-241-to-247-2
returns-in-241-to-247-2 c = none_from c.args.byte (inl (omega arith, omega arith))
