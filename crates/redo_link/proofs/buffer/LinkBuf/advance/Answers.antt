-- The tail goes along one link more.
use Rattle.redo_link.proofs.Steps.{path-step}
use Rattle.redo_link.proofs.buffer.LinkBuf.advance.Goals as goal

pub links-preserved : goal.links-preserved
links-preserved c = path-step c.args.self.now c.links.self c.follow.new.self c.links.invariant c.links-test.ensures.link
