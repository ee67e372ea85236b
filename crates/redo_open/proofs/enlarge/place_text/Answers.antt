-- Zeros, or the text of the page, which is a batch of one.
use Rattle.std.proofs.Common.{sym, subst, ◌∙◌, arith}
use Rattle.model_page.specs.declared.content.Content.{Content}
use Rattle.model_parts.specs.{Fresh, IsFreshPage}
use Rattle.redo_open.proofs.Texts.{blank-is, fresh-text, one-text, zeros-are, zeros-text}
use Rattle.redo_open.specs.Enlarge.{IsPlaceText}
use Rattle.redo_open.proofs.enlarge.place_text.Goals as goal

pub returns-then-is_blank : goal.returns-then-is_blank
returns-then-is_blank c =
    let shape = c.args.shape.now in
    subst (λ (content : Content). IsPlaceText shape c.args.page content c.zero_page-text.result)
    (sym (blank-is shape c.args.lsn c.args.user.now c.requires.user (sym c.is_blank.ensures ∙ c.if-is_blank.true)))
    (zeros-text shape c.args.page c.zero_page-text.result c.requires.limits c.requires.page
    (zeros-are shape.page_size 4096 c.zero_page-text.result c.zero_page-text.ensures c.requires.size))

pub returns : goal.returns
returns c =
    let shape = c.args.shape.now in
    let user = c.args.user.now in
    let text = c.fill_texts.new.out in
    let new : Fresh = record { page = c.args.page; content = record { lsn = c.args.lsn; user = user } } in
    let fresh : IsFreshPage shape new = record {
      below = c.requires.page;
      small_lsn = omega arith;
      long =
          c.requires.user;
      bytes = λ i. omega (arith, c.type_inv.user i);
    } in
    fresh-text shape new text c.requires.limits fresh
    (one-text shape c.args.page c.args.lsn user text c.requires.user (omega (arith, c.requires.size))
    c.fill_texts.ensures.texts)
