use Rattle.std.proofs.Common.{subst, ◌∙◌}
use Rattle.model_core.specs.{UserState}
use Rattle.redo_useractor.proofs.WayToLink.{comes_nearer, has_left, HasLeft}
use Rattle.redo_useractor.proofs.actor.UserActor.took.Goals as goal

pub returns-clause-nearer : goal.returns-clause-nearer
returns-clause-nearer c = λ own some moves.
    comes_nearer c.args.self.now c.took_own.new.self c.args.answer c.took_own.ensures.state own
    (subst (λ (u : UserState). HasLeft u u.step) c.self.view_is (has_left c.self.inside c.self.inside.step c.self.invariant.step))
    some (λ e. moves (c.took_own.ensures.step ∙ e))
