use Rattle.std.proofs.Common.{List, [], ap, arith, sym, ℕ, ◌++◌, ◌+◌, ◌∙◌, ◌∷◌}
use Rattle.redo_useractor.proofs.Pages.{next_least, next_most, next_touched, none_between, one_more}
use Rattle.redo_useractor.proofs.Parts.{collected_none}
use Rattle.redo_useractor.specs.Places.{page_if_touched}
use Rattle.redo_useractor.proofs.changes.touched_pages.Goals as goal

pub loop-page-init : goal.loop-page-init
loop-page-init c = rw c.next_page-page.ensures (record {
  found = c.in_ok-touched.ensures.items ∙ sym (none_between c.args.recs.now 0 c.args.pages (omega arith) ∙ collected_none (page_if_touched c.args.recs.now));
  within = next_most 0 c.args.recs.now c.args.pages;
  touched = next_touched 0 c.args.recs.now c.args.pages;
})

pub loop-page-preserved : goal.loop-page-preserved
loop-page-preserved c =
    let I = c.loop-page.invariant in
    rw c.next_page-page-in-loop-page.ensures (record {
      found = c.in_ok-push.ensures.items ∙ ap (λ (xs : List ℕ). xs ++ c.loop-page.page ∷ []) I.found ∙ sym (none_between c.args.recs.now (c.loop-page.page + 1) c.args.pages (omega arith) ∙ one_more c.args.recs.now c.loop-page.page (I.touched c.loop-page-test.true));
      within = next_most (c.loop-page.page + 1) c.args.recs.now c.args.pages;
      touched = next_touched (c.loop-page.page + 1) c.args.recs.now c.args.pages;
    })

pub loop-page-smaller : goal.loop-page-smaller
loop-page-smaller c =
    let least = next_least (c.loop-page.page + 1) c.args.recs.now c.args.pages (omega arith) in
    let is = c.next_page-page-in-loop-page.ensures in
    omega arith
