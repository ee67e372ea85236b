use Rattle.std.proofs.Common.{◌↔◌, drop}
use Rattle.redo_block.specs.Framing.{AreFirsts}
use Rattle.redo_block.proofs.framing.are_firsts.Given as goal

abbrev pub invariant-loop-first : goal.invariant-loop-first
invariant-loop-first l = AreFirsts l.rest (drop l.first-index l.firsts) ↔ AreFirsts l.fn.stream l.firsts
