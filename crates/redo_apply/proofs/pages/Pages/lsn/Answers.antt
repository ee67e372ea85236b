use Rattle.std.proofs.Common.{◌≡◌, ap, sym, length, Option, IfSome, arith, subst}
use Rattle.model_page.specs.declared.content.Content.{Content}
use Rattle.redo_apply.proofs.Frames.{length-contents}
use Rattle.redo_apply.proofs.Applied.{page-at}
use Rattle.redo_apply.proofs.pages.Pages.lsn.Goals as goal

pub index-requires : goal.index-requires
index-requires c =
    let m = c.self.inside in
    omega (arith, c.requires, m.lsns.ok.0, ap length c.self.view_is, length-contents m.size m.lsns.items m.users.items)

pub returns : goal.returns
returns c =
    let m = c.self.inside in
    subst (λ (found : Option Content). IfSome found (λ content. c.index.result.now ≡ content.lsn))
    (sym (page-at m.size c.args.page c.index.result.now m.lsns.items m.users.items c.args.self.now c.self.view_is c.requires)) c.index.ensures
