use Rattle.std.proofs.Common.{◌≡◌, ◌∙◌, ap, sym, length, Option, IfSome, arith, subst, drop, []}
use Rattle.std.proofs.lemmas.List.{drop_all}
use Rattle.model_log.specs.{RecordFits}
use Rattle.model_page.specs.declared.content.Content.{Content}
use Rattle.model_store.specs.{applied}
use Rattle.redo_apply.specs.Writing.{WritesWithin}
use Rattle.redo_apply.proofs.Records.{applied-none}
use Rattle.redo_apply.proofs.Grouped.{item-at, fits-at, page-below, page-of, within-page, under-way-more, same-shape}
use Rattle.redo_apply.proofs.pages.Pages.apply.Goals as goal

pub apply_record-requires-clause-page : goal.apply_record-requires-clause-page
apply_record-requires-clause-page c =
    let rec = c.rec-item.result in
    let at = item-at c.args.group.now c.deref-rec-items.result.now c.loop-rec.rec-index rec (c.deref-rec-items.ensures.value ∙ c.group.view_is) c.loop-rec-test.true c.rec-item.is in
    let fits = fits-at (RecordFits c.requires.shape) c.args.group.now c.loop-rec.rec-index rec c.requires.fits at in
    let are = c.loop-rec.invariant.its_pages c.requires.shape c.requires.its_pages c.requires.fits in
    omega (arith, are.count, page-below c.requires.shape rec fits)

pub apply_record-requires-clause-within : goal.apply_record-requires-clause-within
apply_record-requires-clause-within c =
    let rec = c.rec-item.result in
    let at = item-at c.args.group.now c.deref-rec-items.result.now c.loop-rec.rec-index rec (c.deref-rec-items.ensures.value ∙ c.group.view_is) c.loop-rec-test.true c.rec-item.is in
    let fits = fits-at (RecordFits c.requires.shape) c.args.group.now c.loop-rec.rec-index rec c.requires.fits at in
    let are = c.loop-rec.invariant.its_pages c.requires.shape c.requires.its_pages c.requires.fits in
    let own = page-of c.requires.shape c.loop-rec.self rec are fits in
    subst (λ (found : Option Content). IfSome found (λ content. WritesWithin (length content.user) rec)) (sym own.at)
    (within-page c.requires.shape c.loop-rec.self rec own.page are fits own.at)

pub loop-rec-preserved : goal.loop-rec-preserved
loop-rec-preserved c =
    let rec = c.rec-item.result in
    let at = item-at c.args.group.now c.deref-rec-items.result.now c.loop-rec.rec-index rec (c.deref-rec-items.ensures.value ∙ c.group.view_is) c.loop-rec-test.true c.rec-item.is in
    under-way-more c.args.group.now c.args.end c.loop-rec.rec-index c.args.self.now c.loop-rec.self c.apply_record.new.self rec c.requires.shape c.requires.its_pages c.requires.fits
    c.loop-rec.invariant at c.apply_record.ensures

pub returns-clause-pages : goal.returns-clause-pages
returns-clause-pages c =
    let none : drop c.loop-rec.rec-index c.args.group.now ≡ [] = drop_all c.loop-rec.rec-index c.args.group.now (omega (arith, ap length (c.deref-rec-items.ensures.value ∙ c.group.view_is))) in
    sym (applied-none c.args.end c.loop-rec.self) ∙ ap (λ recs. applied recs c.args.end c.loop-rec.self) (sym none) ∙ c.loop-rec.invariant.left

pub returns-clause-its_pages : goal.returns-clause-its_pages
returns-clause-its_pages c other are =
    same-shape c.requires.shape other c.args.self.now c.loop-rec.self c.requires.its_pages (c.loop-rec.invariant.its_pages c.requires.shape c.requires.its_pages c.requires.fits) are
