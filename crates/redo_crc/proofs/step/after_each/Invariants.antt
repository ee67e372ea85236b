-- The register has taken the bytes before the index.
use Rattle.std.proofs.Common.{◌≡◌, take}
use Rattle.model_base.specs.{register_after}
use Rattle.redo_crc.proofs.step.after_each.Given as goal

abbrev pub invariant-loop-byte : goal.invariant-loop-byte
invariant-loop-byte l = l.register ≡ register_after l.fn.register (take l.byte-index l.bytes)
