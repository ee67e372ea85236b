use Rattle.std.proofs.Common.{IfOk, ap, codes, subst, ◌∙◌}
use Rattle.clap.specs.Words.{App, with_rule}
use Rattle.model_words.specs.App.{IsApp, flag_rule, number_rule}
use Rattle.redo_command.proofs.app.with_actors.Goals as goal

pub returns : goal.returns
returns c =
    subst (λ (app : App). IfOk c.with_number.result (IsApp (with_rule app (number_rule (codes "followers")))))
    (c.in_ok-command-2.ensures.0 ∙ ap (λ (app : App). with_rule app (flag_rule (codes "own-writes"))) c.in_ok-command.ensures.0)
    c.with_number.ensures
