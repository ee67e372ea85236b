use Rattle.redo_apply.proofs.Where.{IsWhereUnderWay}
use Rattle.redo_apply.proofs.pages.Pages.apply_where.Given as goal

abbrev pub invariant-loop-rec : goal.invariant-loop-rec
invariant-loop-rec l = IsWhereUnderWay l.froms l.group l.start l.end l.rec-index l.initial.self l.self
