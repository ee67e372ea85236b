-- The log's work beside the log part.
use Rattle.std.proofs.Common.{None, Option, Some, ap, ◌≡◌}
use Rattle.model_own.specs.{LogWork}

abbrev work_or : LogWork → Option LogWork → LogWork
work_or d None = d
work_or d (Some k) = k

pub same_work : (j k : LogWork) → Some j ≡ Some k → j ≡ k
same_work j k e = ap (work_or j) e
