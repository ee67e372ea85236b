use Rattle.std.proofs.Common.{length, subst, sym, ◌+◌, ◌<◌, ◌≡◌}
use Rattle.model_core.specs.{change_at, changes, group_end, UserState}
use Rattle.redo_useractor.proofs.UserSteps.{at_step}
use Rattle.redo_useractor.specs.Places.{IsNextCell}
use Rattle.redo_useractor.specs.UserView.{end_limit, HasGroup, IsAt, IsAtPage, user_view}
use Rattle.redo_useractor.specs.declared.actor.UserActor.TheInside.{Inside}
use Rattle.redo_useractor.proofs.actor.UserActor.comes_to.Goals as goal

pub invariant_of-self : goal.invariant_of-self
invariant_of-self c =
    let u : Inside = record c.self.inside { page = c.args.page; cell = c.args.cell; at = c.args.at; step = c.step-self-inside.result } in
    let one = subst (λ (s : UserState). length s.starts ≡ s.k + 1) (sym c.self.view_is) c.requires.one in
    let group : HasGroup u = record {
      line = subst (λ (s : UserState). s.k < length s.lines) (sym c.self.view_is) c.requires.line;
      small = subst (λ (s : UserState). group_end s < end_limit) (sym c.self.view_is) c.requires.small;
      one = one;
    } in
    let page : IsAtPage u = subst (λ (s : UserState). c.args.page < length (changes s)) (sym c.self.view_is) c.requires.page in
    let here = subst (λ (s : UserState). IsNextCell (change_at (changes s) c.args.page).cells c.args.at.word c.args.at.count c.args.cell) (sym c.self.view_is) c.requires.place in
    record {
      ckpt = c.self.invariant.ckpt;
      some_bytes = c.self.invariant.some_bytes;
      step = subst (IsAt u) (sym (c.step-self-inside.ensures (change_at (changes (user_view u)) c.args.page).cells c.args.cell here)) (at_step u group page here);
    }
