-- Eight bytes, and those after them.
use Rattle.std.proofs.Common.{◌≡◌, ◌∙◌, take, drop}
use Rattle.redo_crc.proofs.TableLemmas.{register_after-cut}
use Rattle.redo_crc.proofs.step.register_after.Goals as goal

pub loop-eight-preserved : goal.loop-eight-preserved
loop-eight-preserved c =
    let rest = c.loop-eight.rest.now in
    let eight : c.in-Some.eight.now ≡ take 8 rest = c.in-Some.ensures.cases.0 in
    let others : c.in-Some.others.now ≡ drop 8 rest = c.in-Some.ensures.cases.1 in
    rw (c.after_eight-taken.ensures, eight, others) (register_after-cut c.loop-eight.taken 8 rest ∙ c.loop-eight.invariant)
