use Rattle.redo_apply.proofs.Grouped.{IsUnderWay}
use Rattle.redo_apply.proofs.pages.Pages.apply.Given as goal

abbrev pub invariant-loop-rec : goal.invariant-loop-rec
invariant-loop-rec l = IsUnderWay l.group l.end l.rec-index l.initial.self l.self
