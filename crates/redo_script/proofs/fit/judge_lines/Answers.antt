use Rattle.std.proofs.Common.{refl, arith}
use Rattle.model_script.specs.{line_misfit}
use Rattle.redo_script.proofs.Misfits.{length-more, length-none, none-more, unfit-here}
use Rattle.redo_script.proofs.fit.judge_lines.Goals as goal

pub loop-line-init : goal.loop-line-init
loop-line-init c = (length-none c.args.shape.now.space, refl)

pub returns-in-Err-clause-unfit : goal.returns-in-Err-clause-unfit
returns-in-Err-clause-unfit c = unfit-here c.args.shape.now c.args.lines.now c.loop-line.line-index c.line-item.result c.in-Err.unfit
    c.loop-line.invariant.1 c.loop-line-test.true c.line-item.is c.in-Err.ensures.unfit

pub loop-line-preserved : goal.loop-line-preserved
loop-line-preserved c =
    let line = c.in-Ok.ensures in
    let sum = c.in-Some.ensures.1 in (
      omega (
        arith,
        c.loop-line.invariant.0,
        line.length,
        sum,
        length-more c.args.shape.now.space c.args.lines.now c.loop-line.line-index c.line-item.result c.loop-line-test.true c.line-item.is,
      ),
      none-more (line_misfit c.args.shape.now) c.args.lines.now c.loop-line.line-index c.line-item.result c.loop-line.invariant.1
          c.loop-line-test.true c.line-item.is line.fits,
    )
