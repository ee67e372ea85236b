use Rattle.std.proofs.Common.{◌≡◌, ◌≤◌, ◌<◌, ◌∙◌, ◌+◌, ap, sym, length, Option, Some, IfSome, arith, subst, drop, [], get_or, ℕ}
use Rattle.std.specs.Prelude.{slice_get}
use Rattle.std.proofs.lemmas.List.{drop_all}
use Rattle.std.proofs.lemmas.Option.{slice_get-get_or}
use Rattle.model_log.specs.{page_of, RecordFits}
use Rattle.model_page.specs.declared.content.Content.{Content}
use Rattle.redo_apply.specs.Writing.{WritesWithin}
use Rattle.redo_apply.proofs.Grouped.{item-at, fits-at, page-below, page-of, within-page, same-shape}
use Rattle.redo_apply.proofs.Where.{IsWhereUnderWay, where-own, where-other, where-ends}
use Rattle.redo_apply.proofs.pages.Pages.apply_where.Goals as goal
use Rattle.redo_apply.proofs.pages.Pages.apply_where.Goals.{then-froms-page_of, else-froms-page_of}

pub apply_record-requires-clause-page : goal.apply_record-requires-clause-page
apply_record-requires-clause-page c =
    let rec = c.rec-item.result in
    let at = item-at c.args.group.now c.deref-rec-items.result.now c.loop-rec.rec-index rec (c.deref-rec-items.ensures.value ∙ c.group.view_is) c.loop-rec-test.true c.rec-item.is in
    let fits = fits-at (RecordFits c.requires.fits.shape) c.args.group.now c.loop-rec.rec-index rec c.requires.fits.fits at in
    let are = c.loop-rec.invariant.its_pages c.requires.fits.shape c.requires.fits.its_pages c.requires.fits.fits in
    omega (arith, are.count, page-below c.requires.fits.shape rec fits)

pub apply_record-requires-clause-within : goal.apply_record-requires-clause-within
apply_record-requires-clause-within c =
    let rec = c.rec-item.result in
    let at = item-at c.args.group.now c.deref-rec-items.result.now c.loop-rec.rec-index rec (c.deref-rec-items.ensures.value ∙ c.group.view_is) c.loop-rec-test.true c.rec-item.is in
    let fits = fits-at (RecordFits c.requires.fits.shape) c.args.group.now c.loop-rec.rec-index rec c.requires.fits.fits at in
    let are = c.loop-rec.invariant.its_pages c.requires.fits.shape c.requires.fits.its_pages c.requires.fits.fits in
    let own = page-of c.requires.fits.shape c.loop-rec.self rec are fits in
    subst (λ (found : Option Content). IfSome found (λ content. WritesWithin (length content.user) rec)) (sym own.at)
    (within-page c.requires.fits.shape c.loop-rec.self rec own.page are fits own.at)

pub loop-rec-preserved : goal.loop-rec-preserved
loop-rec-preserved c =
    let rec = c.rec-item.result in
    let froms = c.args.froms.now in
    let at = item-at c.args.group.now c.deref-rec-items.result.now c.loop-rec.rec-index rec (c.deref-rec-items.ensures.value ∙ c.group.view_is) c.loop-rec-test.true c.rec-item.is in
    let fits = fits-at (RecordFits c.requires.fits.shape) c.args.group.now c.loop-rec.rec-index rec c.requires.fits.fits at in
    let below : page_of rec < length froms = omega (arith, c.requires.count, c.requires.fits.its_pages.count, page-below c.requires.fits.shape rec fits) in
    let own : ℕ = get_or froms (page_of rec) 0 in
    let at_own : slice_get froms (page_of rec) ≡ Some own = slice_get-get_or froms (page_of rec) 0 below in
    let way = IsWhereUnderWay froms c.args.group.now c.args.start c.args.end (c.loop-rec.rec-index + 1) c.args.self.now in
    elim c.if-froms-page_of.branch [
      | then-froms-page_of w ↦
          let low : own ≤ c.args.start = subst (λ (q : ℕ). get_or froms q 0 ≤ c.args.start) c.page_of.ensures w.if-froms-page_of.true in
          subst way (sym w.self-is) (where-own froms c.args.group.now c.args.start c.args.end c.loop-rec.rec-index c.args.self.now c.loop-rec.self w.apply_record.new.self rec own
          at_own low at c.loop-rec.invariant w.apply_record.ensures)
      | else-froms-page_of w ↦
          let high : c.args.start < own = subst (λ (q : ℕ). c.args.start < get_or froms q 0) c.page_of.ensures (omega (arith, w.if-froms-page_of.false)) in
          subst way (sym w.self-is) (where-other froms c.args.group.now c.args.start c.args.end c.loop-rec.rec-index c.args.self.now c.loop-rec.self rec own
          at_own high at c.loop-rec.invariant)
    ]

pub returns-clause-pages : goal.returns-clause-pages
returns-clause-pages c =
    let none : drop c.loop-rec.rec-index c.args.group.now ≡ [] = drop_all c.loop-rec.rec-index c.args.group.now (omega (arith, ap length (c.deref-rec-items.ensures.value ∙ c.group.view_is))) in
    where-ends c.args.froms.now c.args.group.now c.args.start c.args.end c.loop-rec.rec-index c.args.self.now c.loop-rec.self none c.loop-rec.invariant

pub returns-clause-its_pages : goal.returns-clause-its_pages
returns-clause-its_pages c other are =
    let fits = c.requires.fits in
    same-shape fits.shape other c.args.self.now c.loop-rec.self fits.its_pages (c.loop-rec.invariant.its_pages fits.shape fits.its_pages fits.fits) are
