-- What is left of an append that failed.
use Rattle.std.specs.Prelude.{List, false, true, ℕ, ◌<◌, ◌≡◌, ◌⊎◌}
use lib.ListN.{get_elem?}
use mathlib.Core.Option.{some}
use Rattle.model_core.specs.States.{Actor, ReaderState}
use Rattle.model_core.specs.States as actor
use Rattle.model_core.specs.ActorProgram.{IsArchiveCode}
use Rattle.model_core.specs.ReaderProgram.{archives}
use Rattle.model_core.specs.declared.steps.ReaderStep.{ReaderStep}
use Rattle.model_core.specs.declared.steps.ReaderStep.TheVariants as reader_step

-- among the actors is an archiver whose append has failed with this code
pub record HasLost (actors : List Actor) (code : ℕ) : Type 0 where
  pub seat : ℕ
  pub archiver : ReaderState
  pub at : get_elem? actors seat ≡ some (actor.Reader archiver)
  pub lost : archiver.lost ≡ code
  pub some_code : 0 < code

-- its append has failed, and by that it ends
pub record IsLosing (r : ReaderState) : Type 0 where
  pub archiver : archives r ≡ true
  pub why : IsArchiveCode r.lost
  pub ends : r.code ≡ r.lost
  pub unchecked : r.checks ≡ false

-- what a reader's step says of that: the archiver alone appends, and no more once an append has failed
abbrev pub LostAt : ReaderState → ReaderStep → Type 0
LostAt r reader_step.Append = (archives r ≡ true) × (r.lost ≡ 0)
LostAt r reader_step.StoreLost = IsLosing r
LostAt r reader_step.Failed = (r.lost ≡ 0) ⊎ IsLosing r
LostAt r _ = r.lost ≡ 0
