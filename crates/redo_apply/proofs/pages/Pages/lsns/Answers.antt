use Rattle.std.proofs.Common.{ℕ, List, sym, subst}
use Rattle.redo_apply.specs.Replay.{HaveLsns}
use Rattle.redo_apply.proofs.Where.{have-lsns}
use Rattle.redo_apply.proofs.pages.Pages.lsns.Goals as goal

pub returns : goal.returns
returns c =
    let m = c.self.inside in
    subst (λ (lsns : List ℕ). HaveLsns c.args.self.now lsns) (sym c.as_slice.ensures.value) (have-lsns m.size m.lsns.items m.users.items c.args.self.now c.self.view_is)
