use Rattle.std.proofs.Common.{true, ◌-◌, ◌<◌, ◌≡◌, ◌≤◌}
use Rattle.model_core.specs.{collected}
use Rattle.model_store.specs.{touches}
use Rattle.redo_useractor.specs.Places.{page_if_touched}
use Rattle.redo_useractor.proofs.changes.touched_pages.Given as goal

abbrev pub invariant-loop-page : goal.invariant-loop-page
invariant-loop-page l = record {
  found : l.touched.items ≡ collected (page_if_touched l.recs) l.page;
  within : l.page ≤ l.pages;
  touched : l.page < l.pages → touches l.page l.recs ≡ true;
}

abbrev pub decreases-loop-page : goal.decreases-loop-page
decreases-loop-page l = l.pages - l.page
