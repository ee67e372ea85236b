-- What a user hears is the number in the answer, or 1.
use Rattle.std.proofs.Common.{arith, ◌+◌, ◌≤◌}
use Rattle.model_core.specs.{heard, old_of}
use Rattle.model_core.specs.declared.ops.Answer.{Answer}
use Rattle.model_core.specs.declared.ops.Answer.TheVariants as answer

pub heard_at_most : (a : Answer) → heard a ≤ old_of a + 1
heard_at_most answer.Held = omega arith
heard_at_most (answer.Old n) = omega arith
heard_at_most (answer.Taken n) = omega arith
heard_at_most answer.Broken = omega arith
heard_at_most (answer.Called n) = omega arith
heard_at_most (answer.Failed c) = omega arith
heard_at_most answer.Rested = omega arith
