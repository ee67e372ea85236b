use Rattle.std.proofs.Common.{◌∙◌, ap, ap₂, arith, replicate, sym, subst, ℕ}
use Rattle.model_base.proofs.ShapeLimits.{whole_sectors}
use Rattle.model_page.specs.declared.content.Content.{Content}
use Rattle.redo_apply.specs.Fits.{ArePagesOf}
use Rattle.redo_apply.proofs.Grouped.{are-blank_pages}
use Rattle.redo_apply.specs.Frames.{contents}
use Rattle.redo_apply.proofs.Frames.{contents-replicate}
use Rattle.redo_apply.proofs.pages.Pages.blank.Goals as goal

pub user_bytes-size-requires : goal.user_bytes-size-requires
user_bytes-size-requires c = omega (arith, (whole_sectors c.args.shape.now c.requires.limits).least)

pub returns-clause-pages : goal.returns-clause-pages
returns-clause-pages c =
    let size = c.user_bytes-size.result in
    ap₂ (contents size) (c.in_ok-lsns.ensures.items_if_clones_equal (λ lsn same. same)) (c.in_ok-users.ensures.items_if_clones_equal (λ byte same. same))
    ∙ contents-replicate size c.args.shape.now.pages
    ∙ ap (λ (n : ℕ). replicate c.args.shape.now.pages
    (let page : Content = record { lsn = 0; user = replicate n 0 } in page)) c.user_bytes-size.ensures

pub returns-clause-its_pages : goal.returns-clause-its_pages
returns-clause-its_pages c = subst (ArePagesOf c.args.shape.now) (sym (returns-clause-pages c)) (are-blank_pages c.args.shape.now)
