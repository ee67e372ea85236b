use Rattle.std.proofs.Common.{◌/◌, ap, ◌∙◌, arith}
use Rattle.redo_apply.proofs.Numbers.{quotient-more, written-more}
use Rattle.redo_apply.proofs.record.write_number.Goals as goal

pub loop-i-preserved : goal.loop-i-preserved
loop-i-preserved c =
    let l = c.loop-i in (
      ap (λ x. x / 256) l.invariant.0 ∙ quotient-more l.i c.args.value,
      written-more l.place l.i l.left c.args.value (omega arith) l.invariant.0 l.invariant.1,
    )
