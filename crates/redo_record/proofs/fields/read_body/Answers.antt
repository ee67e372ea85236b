use Rattle.std.proofs.Common.{arith, ◌∙◌}
use Rattle.redo_record.proofs.Leaves.{body_part, body_begins}
use Rattle.redo_record.proofs.fields.read_body.Goals as goal

pub returns-then-bytes-length : goal.returns-then-bytes-length
returns-then-bytes-length c = body_part c.args.length c.args.bytes.now (λ i. omega (arith, c.type_inv.bytes i)) c.if-bytes-length.true

pub returns : goal.returns
returns c =
    rw c.split_at.ensures.back (body_begins c.args.length c.args.bytes.now c.new.result (λ i. omega (arith, c.type_inv.bytes i)) c.if-bytes-length.false (c.new.ensures ∙ c.in_ok-from_slice.ensures.items ∙ c.split_at.ensures.front))
