use Rattle.std.proofs.Common.{refl, sym, ◌∙◌}
use Rattle.redo_finish.proofs.Blocks.{nothing}
use Rattle.redo_lab.proofs.archiving.finish_run.Goals as goal

pub returns-in-Spent : goal.returns-in-Spent
returns-in-Spent g c = rw c.in-Some.is (record {
  read = refl;
  finishes = nothing g.L.Sectors.seen g.L.Sectors.gives g.A.Sectors.seen g.A.Sectors.gives
      c.args.driven.closed.marks.flushed c.args.driven.closed.log c.in-Some.part (rw c.in-Some.is at c.requires.finish);
  done = λ ended. absurd (let z = sym c.in-Spent.is ∙ ended in cc);
})
