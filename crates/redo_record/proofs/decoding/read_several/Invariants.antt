use Rattle.std.proofs.Common.{◌≡◌, ◌++◌, length}
use Rattle.std.specs.List.{AllByRecursion}
use Rattle.model_log.specs.{HasText}
use Rattle.model_log.proofs.Several.{texts}
use Rattle.redo_record.proofs.decoding.read_several.Given as goal

abbrev pub invariant-loop-alloc : goal.invariant-loop-alloc
invariant-loop-alloc l = (l.fn.bytes ≡ texts l.recs.items ++ l.rest) × AllByRecursion HasText l.recs.items

abbrev pub decreases-loop-alloc : goal.decreases-loop-alloc
decreases-loop-alloc l = length l.rest
