use Rattle.std.proofs.Common.{◌≡◌, ◌++◌, List, ℕ, length, min}
use Rattle.std.specs.List.{AllByRecursion}
use Rattle.model_log.specs.{HasText}
use Rattle.model_log.specs.declared.rec.Rec.{Rec}
use Rattle.model_log.proofs.Several.{texts}
use Rattle.redo_record.proofs.spanning.skip_several.Given as goal

-- these records were passed over
pub record SkippedSoFar (bytes rest : List ℕ) (count : ℕ) : Type 0 where
  pub recs : List Rec
  pub parts : bytes ≡ texts recs ++ rest
  pub each : AllByRecursion HasText recs
  pub counted : count ≡ min (length recs) 2

abbrev pub invariant-loop-rest : goal.invariant-loop-rest
invariant-loop-rest l = SkippedSoFar l.fn.bytes l.rest l.count

abbrev pub decreases-loop-rest : goal.decreases-loop-rest
decreases-loop-rest l = length l.rest
