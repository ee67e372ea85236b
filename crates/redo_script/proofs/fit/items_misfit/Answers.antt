use Rattle.std.proofs.Common.{sym, ◌∙◌}
use Rattle.model_script.specs.{item_misfit}
use Rattle.redo_script.proofs.Misfits.{first-here, none-more}
use Rattle.redo_script.proofs.fit.items_misfit.Goals as goal

pub returns-in-Some : goal.returns-in-Some
returns-in-Some c = sym (first-here (item_misfit c.args.shape.now) c.args.items.now c.loop-item.item-index c.item-item.result c.in-Some.misfit
    c.loop-item.invariant c.loop-item-test.true c.item-item.is (sym c.item_misfit.ensures ∙ c.in-Some.is))

pub loop-item-preserved : goal.loop-item-preserved
loop-item-preserved c = none-more (item_misfit c.args.shape.now) c.args.items.now c.loop-item.item-index c.item-item.result
    c.loop-item.invariant c.loop-item-test.true c.item-item.is (sym c.item_misfit.ensures ∙ c.in_default.is)
