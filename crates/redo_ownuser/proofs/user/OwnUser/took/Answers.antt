use Rattle.std.proofs.Common.{ap, sym, ◌∙◌}
use Rattle.model_own.specs.{OwnUser}
use Rattle.redo_ownuser.proofs.StandsStill.{nearer_off}
use Rattle.redo_ownuser.proofs.user.OwnUser.took.Goals as goal

pub returns-clause-way : goal.returns-clause-way
returns-clause-way c =
    nearer_off c.args.self.now c.args.work.now c.args.answer c.goes_on.new.self c.goes_on.result
    (sym (ap (λ (x : OwnUser). x.user.checks) c.self.view_is) ∙ sym c.is_checking.ensures ∙ c.if-is_checking.false)
    c.goes_on.ensures.user c.goes_on.ensures.step
    c.goes_on.ensures.nearer
