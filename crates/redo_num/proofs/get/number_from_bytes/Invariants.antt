-- The number of the bytes before the index.
use Rattle.std.proofs.Common.{◌≡◌, take}
use Rattle.model_base.specs.{number_from_bytes}
use Rattle.redo_num.proofs.get.number_from_bytes.Given as goal

abbrev pub invariant-loop-byte : goal.invariant-loop-byte
invariant-loop-byte l = l.number ≡ number_from_bytes (take l.byte-index l.bytes)
