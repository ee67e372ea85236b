use Rattle.std.proofs.Common.{ap, false, sym, ◌∙◌}
use Rattle.model_core.specs.{heard}
use Rattle.model_own.specs.{OwnUser, loads_again}
use Rattle.redo_ownuser.proofs.Stepped.{stepped_to}
use Rattle.redo_ownuser.proofs.user.OwnUser.stepped.Goals as goal

pub returns-then-sets_out-clause-step : goal.returns-then-sets_out-clause-step
returns-then-sets_out-clause-step c =
    let stepped = c.self-2.view_is ∙ c.takes-step.ensures.user in
    let user = ap (λ (x : OwnUser). record x.user { checks = false; step = loads_again x.user.step }) stepped in
    stepped_to c.args.self.now (heard c.args.answer) c.set_out.new.self c.self-2.inside.helped
    (sym c.takes-step.ensures.out ∙ c.if-sets_out.true) (c.set_out.ensures ∙ user)
