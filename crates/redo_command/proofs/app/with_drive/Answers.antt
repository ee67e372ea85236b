use Rattle.std.proofs.Common.{IfOk, subst}
use Rattle.clap.specs.Words.{App}
use Rattle.model_words.specs.App.{IsApp, with_actors}
use Rattle.redo_command.proofs.app.with_drive.Goals as goal

pub returns : goal.returns
returns c =
    subst (λ (app : App). IfOk c.with_actors.result (IsApp (with_actors app))) c.in_ok-command.ensures.0 c.with_actors.ensures
