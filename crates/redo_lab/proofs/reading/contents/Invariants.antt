use Rattle.std.proofs.Common.{◌≡◌, take}
use Rattle.redo_lab.proofs.reading.contents.Given as goal

abbrev pub invariant-loop-page : goal.invariant-loop-page
invariant-loop-page l = l.contents.items ≡ take l.page l.pages
