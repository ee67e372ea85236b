use Rattle.std.proofs.Common.{arith}
use Rattle.redo_record.proofs.Groups.{group_part}
use Rattle.redo_record.proofs.Skipping.{single_skips}
use Rattle.redo_record.proofs.spanning.skip_whole.Goals as goal

pub returns-in-empty : goal.returns-in-empty
returns-in-empty c = group_part c.args.bytes.now (omega arith)

pub returns-in-len1-up : goal.returns-in-len1-up
returns-in-len1-up c =
    single_skips (λ x. x.now) c.args.bytes.now c.if-first-ge-SINGLE.true c.skip_record.result c.skip_record.ensures
