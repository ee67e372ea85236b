use Rattle.std.proofs.Common.{◌∙◌, sym, ap, map}
use Rattle.std.specs.Prelude.{nat_lt}
use Rattle.model_base.specs.declared.limits.TheConstants.{MAX_GROUP}
use Rattle.model_script.specs.{first_misfit_of, item_misfit, misfit_if, user_misfit}
use Rattle.model_script.specs.declared.script.ScriptLine.{ScriptLine}
use Rattle.model_script.specs.declared.misfit.Quantity.TheVariants.{Group}
use Rattle.redo_script.proofs.Misfits.{line-group, line-items}
use Rattle.redo_script.proofs.fit.judge_line.Goals as goal

pub returns-in-Some-items_misfit-clause-unfit : goal.returns-in-Some-items_misfit-clause-unfit
returns-in-Some-items_misfit-clause-unfit c =
    let items = ap (λ (line : ScriptLine). first_misfit_of (map (item_misfit c.args.shape.now) line.items)) (sym c.line.view_is)
    ∙ ap (λ items. first_misfit_of (map (item_misfit c.args.shape.now) items)) (sym c.as_slice.ensures.value) in
    line-items c.args.shape.now c.args.line.now c.in-Some-items_misfit.misfit (ap (λ (line : ScriptLine). user_misfit line.user) (sym c.line.view_is) ∙ sym c.user_misfit.ensures ∙ c.in_default.is)
    (items ∙ sym c.items_misfit.ensures ∙ c.in-Some-items_misfit.is)

pub returns-in-Some-misfit_if-clause-unfit : goal.returns-in-Some-misfit_if-clause-unfit
returns-in-Some-misfit_if-clause-unfit c =
    let items = ap (λ (line : ScriptLine). first_misfit_of (map (item_misfit c.args.shape.now) line.items)) (sym c.line.view_is)
    ∙ ap (λ items. first_misfit_of (map (item_misfit c.args.shape.now) items)) (sym c.as_slice.ensures.value) in
    line-group c.args.shape.now c.args.line.now (ap (λ (line : ScriptLine). user_misfit line.user) (sym c.line.view_is) ∙ sym c.user_misfit.ensures ∙ c.in_default.is)
    (items ∙ sym c.items_misfit.ensures ∙ c.in_default-items_misfit.is)
    ∙ ap (λ n. misfit_if (nat_lt MAX_GROUP n) Group n) (sym c.in-Ok.ensures.length) ∙ sym c.misfit_if.ensures ∙ c.in-Some-misfit_if.is

pub returns-in-None-clause-fits : goal.returns-in-None-clause-fits
returns-in-None-clause-fits c =
    let items = ap (λ (line : ScriptLine). first_misfit_of (map (item_misfit c.args.shape.now) line.items)) (sym c.line.view_is)
    ∙ ap (λ items. first_misfit_of (map (item_misfit c.args.shape.now) items)) (sym c.as_slice.ensures.value) in
    line-group c.args.shape.now c.args.line.now (ap (λ (line : ScriptLine). user_misfit line.user) (sym c.line.view_is) ∙ sym c.user_misfit.ensures ∙ c.in_default.is)
    (items ∙ sym c.items_misfit.ensures ∙ c.in_default-items_misfit.is)
    ∙ ap (λ n. misfit_if (nat_lt MAX_GROUP n) Group n) (sym c.in-Ok.ensures.length) ∙ sym c.misfit_if.ensures ∙ c.in-None.is
