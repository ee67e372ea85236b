use Rattle.std.proofs.Common.{◌+◌, get_or, refl, subst, sym, take, ◌∙◌}
use Rattle.std.specs.List.{AllZip}
use Rattle.std.proofs.lemmas.List.{with_items_is}
use Rattle.redo_papply.proofs.Grouping.{run-fits, run-more}
use Rattle.redo_papply.specs.Fits.{FitFrames}
use Rattle.redo_papply.specs.Frames.{AreAfterGroup, IsFrameOf}
use Rattle.redo_papply.proofs.run.apply_run.Goals as goal

pub apply_group-requires : goal.apply_group-requires
apply_group-requires c =
    let groups = c.args.groups.now in
    let i = c.loop-whole.whole-index in
    let fits = run-fits groups (take i groups) c.args.pages.now c.args.numbers.now i c.whole-item.result c.loop-whole.frames.items c.requires.fit
    c.loop-whole-test.true c.whole-item.is c.loop-whole.invariant in
    subst (FitFrames c.whole-item.result.group) (sym c.as_mut_slice.ensures.value) fits

pub loop-whole-preserved : goal.loop-whole-preserved
loop-whole-preserved c =
    let whole = c.whole-item.result in
    let after = subst (λ frames. AreAfterGroup (get_or c.args.numbers.now 0 0) whole.group whole.start whole.end frames c.apply_group.new.frames)
    c.as_mut_slice.ensures.value c.apply_group.ensures in
    let back = with_items_is c.loop-whole.frames c.apply_group.new.frames (c.apply_group.ensures.count ∙ c.as_mut_slice.ensures.len) in
    subst (λ frames. AllZip (IsFrameOf (take (c.loop-whole.whole-index + 1) c.args.groups.now) c.args.pages.now) c.args.numbers.now frames) (sym back)
    (run-more c.args.groups.now c.args.pages.now c.args.numbers.now c.loop-whole.whole-index (get_or c.args.numbers.now 0 0) whole c.loop-whole.frames.items
    c.apply_group.new.frames c.requires.run refl c.loop-whole-test.true c.whole-item.is c.loop-whole.invariant after)
