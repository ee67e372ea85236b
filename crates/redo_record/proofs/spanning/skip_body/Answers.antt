use Rattle.std.proofs.Common.{arith}
use Rattle.redo_record.proofs.Leaves.{body_part}
use Rattle.redo_record.proofs.Skipping.{string_begins}
use Rattle.redo_record.proofs.spanning.skip_body.Goals as goal

pub returns-then-bytes-length : goal.returns-then-bytes-length
returns-then-bytes-length c =
    body_part c.args.length c.args.bytes.now (λ i. omega (arith, c.type_inv.bytes i)) c.if-bytes-length.true

pub returns : goal.returns
returns c =
    string_begins c.args.length c.args.bytes.now (λ i. omega (arith, c.type_inv.bytes i)) c.if-bytes-length.false
