use Rattle.std.proofs.Common.{◌≡◌, ◌+◌, ◌++◌, length}
use Rattle.redo_block.specs.Framing.{unframed}
use Rattle.redo_block.proofs.framing.unframe.Given as goal

abbrev pub invariant-loop-block : goal.invariant-loop-block
invariant-loop-block l =
    (l.stream.items ++ unframed l.rest l.lsn ≡ unframed l.fn.blocks l.fn.from)
    × (l.lsn + length l.rest ≡ l.fn.from + length l.fn.blocks)

abbrev pub decreases-loop-block : goal.decreases-loop-block
decreases-loop-block l = length l.rest
