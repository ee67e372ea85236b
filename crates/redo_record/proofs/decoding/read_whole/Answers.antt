use Rattle.std.proofs.Common.{arith}
use Rattle.redo_record.proofs.Groups.{group_part}
use Rattle.redo_record.proofs.decoding.read_whole.Goals as goal

pub returns-in-empty : goal.returns-in-empty
returns-in-empty c = group_part c.args.bytes.now (omega arith)
