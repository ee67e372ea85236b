use Rattle.redo_apply.proofs.Grouped.{IsPageUnderWay}
use Rattle.redo_apply.proofs.pages.Pages.apply_to_page.Given as goal

abbrev pub invariant-loop-rec : goal.invariant-loop-rec
invariant-loop-rec l = IsPageUnderWay l.page l.group l.end l.rec-index l.initial.self l.self
