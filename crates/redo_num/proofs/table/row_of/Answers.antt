-- The row that the number's range names.
use Rattle.std.proofs.Common.{arith}
use Rattle.model_base.proofs.TableLemmas.{row_holds, seven_bits, fourteen_bits, twenty_one_bits, twenty_eight_bits, whole, low_24_bits, low_17_bits, low_10_bits}
use Rattle.redo_num.proofs.table.row_of.Goals as goal

pub returns-in-0-to-127 : goal.returns-in-0-to-127
returns-in-0-to-127 c = row_holds c.args.n _ seven_bits (omega arith) (omega arith)

pub returns-in-128-to-16383 : goal.returns-in-128-to-16383
returns-in-128-to-16383 c = row_holds c.args.n _ fourteen_bits (omega arith) (omega arith)

pub returns-in-16384-to-2097151 : goal.returns-in-16384-to-2097151
returns-in-16384-to-2097151 c = row_holds c.args.n _ twenty_one_bits (omega arith) (omega arith)

pub returns-in-2097152-to-268435455 : goal.returns-in-2097152-to-268435455
returns-in-2097152-to-268435455 c = row_holds c.args.n _ twenty_eight_bits (omega arith) (omega arith)

pub returns-in-268435456-to-4278190079 : goal.returns-in-268435456-to-4278190079
returns-in-268435456-to-4278190079 c = row_holds c.args.n _ whole (omega arith) (omega arith)

pub returns-in-4278190080-to-4294836223 : goal.returns-in-4278190080-to-4294836223
returns-in-4278190080-to-4294836223 c = row_holds c.args.n _ low_24_bits (omega arith) (omega arith)

pub returns-in-4294836224-to-4294966271 : goal.returns-in-4294836224-to-4294966271
returns-in-4294836224-to-4294966271 c = row_holds c.args.n _ low_17_bits (omega arith) (omega arith)

pub returns-in-4294966272-to-4294967295 : goal.returns-in-4294966272-to-4294967295
returns-in-4294966272-to-4294967295 c = row_holds c.args.n _ low_10_bits (omega arith) (omega arith)
