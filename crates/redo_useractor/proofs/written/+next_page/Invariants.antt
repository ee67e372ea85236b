use Rattle.std.proofs.Common.{length}
use Rattle.redo_useractor.proofs.written.+next_page.Given as goal

abbrev pub decreases-next_page : goal.decreases-next_page
decreases-next_page l = length l.recs.now
