use Rattle.std.proofs.Common.{arith, sym, ◌∙◌}
use Rattle.redo_recover.proofs.Paging.{replaying-none, replaying-more, replaying-all}
use Rattle.redo_recover.proofs.replay.replay_groups.Goals as goal

pub loop-whole-init : goal.loop-whole-init
loop-whole-init c = record {
  its_pages = c.requires.its_pages;
  done = replaying-none c.args.groups.now c.args.pages.now;
}

pub loop-whole-preserved : goal.loop-whole-preserved
loop-whole-preserved c = record {
  its_pages = c.apply_where.ensures.its_pages c.args.shape.now c.loop-whole.invariant.its_pages;
  done = replaying-more c.args.groups.now c.loop-whole.whole-index c.args.lsns.now c.args.pages.now c.loop-whole.pages
      c.apply_where.new.self c.whole-item.result (omega arith) c.whole-item.is c.requires.lsns
      c.apply_where.ensures.pages c.loop-whole.invariant.done;
}

pub returns-clause-replayed : goal.returns-clause-replayed
returns-clause-replayed c =
    replaying-all c.args.groups.now c.loop-whole.whole-index c.args.pages.now c.loop-whole.pages (omega arith)
    (c.loop-whole.invariant.its_pages.count ∙ sym c.requires.its_pages.count) c.loop-whole.invariant.done
