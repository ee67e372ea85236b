use Rattle.std.proofs.Common.{take, ◌∙◌}
use Rattle.redo_apply.proofs.Grouped.{item-at}
use Rattle.redo_papply.proofs.Grouping.{fit-still, group-more}
use Rattle.redo_papply.proofs.run.apply_group.Goals as goal

pub apply_record-requires : goal.apply_record-requires
apply_record-requires c =
    let group = c.args.group.now in
    let i = c.loop-rec.rec-index in
    let rec = c.rec-item.result in
    let at = item-at group c.deref-rec-items.result.now i rec (c.deref-rec-items.ensures.value ∙ c.group.view_is) c.loop-rec-test.true c.rec-item.is in
    fit-still c.args.first group (take i group) i rec c.args.start c.args.end c.args.frames.now c.loop-rec.frames at c.requires c.loop-rec.invariant

pub loop-rec-preserved : goal.loop-rec-preserved
loop-rec-preserved c =
    let group = c.args.group.now in
    let i = c.loop-rec.rec-index in
    let rec = c.rec-item.result in
    let at = item-at group c.deref-rec-items.result.now i rec (c.deref-rec-items.ensures.value ∙ c.group.view_is) c.loop-rec-test.true c.rec-item.is in
    group-more c.args.first group i rec c.args.start c.args.end c.args.frames.now c.loop-rec.frames c.apply_record.new.frames at
    c.loop-rec.invariant c.apply_record.ensures
