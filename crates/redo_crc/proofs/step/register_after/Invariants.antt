-- What the rest does to the register so far is what all the bytes do to the first one.
use Rattle.std.proofs.Common.{◌≡◌, length}
use Rattle.model_base.specs.{register_after}
use Rattle.redo_crc.proofs.step.register_after.Given as goal

abbrev pub invariant-loop-eight : goal.invariant-loop-eight
invariant-loop-eight l = register_after l.taken l.rest ≡ register_after l.fn.register l.fn.bytes

abbrev pub decreases-loop-eight : goal.decreases-loop-eight
decreases-loop-eight l = length l.rest
