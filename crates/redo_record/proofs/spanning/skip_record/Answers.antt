use Rattle.std.proofs.Common.{arith}
use Rattle.redo_record.proofs.Leaves.{record_part}
use Rattle.redo_record.proofs.spanning.skip_record.Goals as goal

pub returns-in_default : goal.returns-in_default
returns-in_default c = record_part c.args.flag c.args.bytes.now (omega arith)
