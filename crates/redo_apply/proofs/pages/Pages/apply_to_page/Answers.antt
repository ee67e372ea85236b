use Rattle.std.proofs.Common.{◌≡◌, ◌∙◌, ◌+◌, ap, sym, length, Option, IfSome, arith, subst, drop, [], refl}
use Rattle.std.specs.Prelude.{slice_get}
use Rattle.std.proofs.lemmas.List.{drop_all}
use Rattle.model_log.specs.{RecordFits}
use Rattle.model_page.specs.declared.content.Content.{Content}
use Rattle.redo_apply.specs.Writing.{WritesWithin}
use Rattle.redo_apply.proofs.Grouped.{item-at, fits-at, page-below, page-of, within-page, IsPageUnderWay, page-way-begins, page-way-own, page-way-other, page-way-ends, same-shape}
use Rattle.redo_apply.proofs.pages.Pages.apply_to_page.Goals as goal
use Rattle.redo_apply.proofs.pages.Pages.apply_to_page.Goals.{then-page_of-page, else-page_of-page}

pub apply_record-requires-clause-page : goal.apply_record-requires-clause-page
apply_record-requires-clause-page c =
    let rec = c.rec-item.result in
    let at = item-at c.args.group.now c.deref-rec-items.result.now c.loop-rec.rec-index rec (c.deref-rec-items.ensures.value ∙ c.group.view_is) c.loop-rec-test.true c.rec-item.is in
    let fits = fits-at (RecordFits c.requires.fits.shape) c.args.group.now c.loop-rec.rec-index rec c.requires.fits.fits at in
    let are = c.loop-rec.invariant.its_pages c.requires.fits.shape c.requires.fits.its_pages c.requires.fits.fits in
    omega (arith, are.count, page-below c.requires.fits.shape rec fits)

pub apply_record-requires-clause-within : goal.apply_record-requires-clause-within
apply_record-requires-clause-within c =
    let rec = c.rec-item.result in
    let at = item-at c.args.group.now c.deref-rec-items.result.now c.loop-rec.rec-index rec (c.deref-rec-items.ensures.value ∙ c.group.view_is) c.loop-rec-test.true c.rec-item.is in
    let fits = fits-at (RecordFits c.requires.fits.shape) c.args.group.now c.loop-rec.rec-index rec c.requires.fits.fits at in
    let are = c.loop-rec.invariant.its_pages c.requires.fits.shape c.requires.fits.its_pages c.requires.fits.fits in
    let own = page-of c.requires.fits.shape c.loop-rec.self rec are fits in
    subst (λ (found : Option Content). IfSome found (λ content. WritesWithin (length content.user) rec)) (sym own.at)
    (within-page c.requires.fits.shape c.loop-rec.self rec own.page are fits own.at)

pub loop-rec-init : goal.loop-rec-init
loop-rec-init c = page-way-begins c.args.page c.args.group.now c.args.end c.args.self.now

pub loop-rec-preserved : goal.loop-rec-preserved
loop-rec-preserved c =
    let rec = c.rec-item.result in
    let at = item-at c.args.group.now c.deref-rec-items.result.now c.loop-rec.rec-index rec (c.deref-rec-items.ensures.value ∙ c.group.view_is) c.loop-rec-test.true c.rec-item.is in
    let way = IsPageUnderWay c.args.page c.args.group.now c.args.end (c.loop-rec.rec-index + 1) c.args.self.now in
    elim c.if-page_of-page.branch [
      | then-page_of-page w ↦
          subst way (sym w.self-is) (page-way-own c.args.page c.args.group.now c.args.end c.loop-rec.rec-index c.args.self.now c.loop-rec.self w.apply_record.new.self rec
          (sym c.page_of.ensures ∙ w.if-page_of-page.true) at c.loop-rec.invariant w.apply_record.ensures)
      | else-page_of-page w ↦
          subst way (sym w.self-is) (page-way-other c.args.page c.args.group.now c.args.end c.loop-rec.rec-index c.args.self.now c.loop-rec.self rec
          (λ on. w.if-page_of-page.false (c.page_of.ensures ∙ on)) at c.loop-rec.invariant)
    ]

pub returns-clause-content : goal.returns-clause-content
returns-clause-content c =
    let none : drop c.loop-rec.rec-index c.args.group.now ≡ [] = drop_all c.loop-rec.rec-index c.args.group.now (omega (arith, ap length (c.deref-rec-items.ensures.value ∙ c.group.view_is))) in
    page-way-ends c.args.page c.args.group.now c.args.end c.loop-rec.rec-index c.args.self.now c.loop-rec.self (slice_get c.args.self.now c.args.page) none refl c.loop-rec.invariant

pub returns-clause-its_pages : goal.returns-clause-its_pages
returns-clause-its_pages c other are =
    let fits = c.requires.fits in
    same-shape fits.shape other c.args.self.now c.loop-rec.self fits.its_pages (c.loop-rec.invariant.its_pages fits.shape fits.its_pages fits.fits) are
