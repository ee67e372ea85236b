use Rattle.std.proofs.Common.{◌≡◌, ◌+◌, ap, get_or, length, rules, ◌∙◌, arith}
use Rattle.std.proofs.lemmas.List.FromFn.{get_or-range_with_len}
use Rattle.redo_papply.proofs.Grouping.{run-one}
use Rattle.redo_papply.proofs.run.frames_of.Goals as goal

pub of-requires : goal.of-requires
of-requires c =
    let run = c.requires in
    let i = c.loop-number.number-index in
    let own : get_or c.args.numbers.now i 0 ≡ run.first + i =
    ap (λ ns. get_or ns i 0) run.are ∙ get_or-range_with_len run.first (length c.args.numbers.now) i 0 c.loop-number-test.true in
    omega (arith, own, run.within, c.loop-number-test.true)

pub loop-number-preserved : goal.loop-number-preserved
loop-number-preserved c =
    run-one c.args.pages.now c.args.numbers.now c.loop-number.number-index c.loop-number.frames.items c.push.new.self.items c.in_ok-of.field-0
    c.loop-number-test.true (search rules) c.loop-number.invariant c.in_ok-of.ensures
