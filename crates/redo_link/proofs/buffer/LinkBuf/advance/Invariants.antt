-- The tail goes along the links.
use Rattle.std.proofs.Common.{◌-◌, ◌^◌}
use Rattle.redo_link.proofs.Steps.{IsOnPath}
use Rattle.redo_link.proofs.buffer.LinkBuf.advance.Given as goal

abbrev pub invariant-links : goal.invariant-links
invariant-links l = IsOnPath l.fn.self l.self

abbrev pub decreases-links : goal.decreases-links
decreases-links l = 2 ^ 64 - l.self.tail
