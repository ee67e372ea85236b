use Rattle.redo_apply.specs.{ArePagesOf}
use Rattle.redo_recover.proofs.Paging.{AreReplaying}
use Rattle.redo_recover.proofs.replay.replay_groups.Given as goal

abbrev pub invariant-loop-whole : goal.invariant-loop-whole
invariant-loop-whole l = record {
  its_pages : ArePagesOf l.shape l.pages;
  done : AreReplaying l.groups l.whole-index l.fn.pages l.pages;
}
