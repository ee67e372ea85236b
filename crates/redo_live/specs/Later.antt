-- A user, later.
use Rattle.std.specs.Prelude.{List, ℕ, ◌++◌, ◌≡◌, ◌≤◌}
use Rattle.model_core.specs.{Line}
use Rattle.model_core.specs.declared.steps.UserStep.TheVariants as user_step
use Rattle.model_reads.specs.declared.read.ReadEnd.{ReadEnd}
use Rattle.redo_live.specs.Holding.{reads_of, state_of}
use Rattle.redo_live.specs.declared.user.User.{User}

-- THE USER HAS GONE ON: it keeps its number, its lines, the groups that it has reserved, the commits that were answered
-- and what its reads came to, and more of each may follow. One that has failed stays as it is, but for its reads.
pub record HasGoneOn {L D : Type 0} (old new : User L D) : Type 0 where
  pub number : (state_of new).user ≡ (state_of old).user
  pub lines : (more : List Line) × ((state_of new).lines ≡ (state_of old).lines ++ more)
  pub starts : (more : List ℕ) × ((state_of new).starts ≡ (state_of old).starts ++ more)
  pub answered : (state_of old).k ≤ (state_of new).k
  pub failed : (state_of old).step ≡ user_step.Failed → state_of new ≡ state_of old
  pub reads : (more : List ReadEnd) × (reads_of new ≡ reads_of old ++ more)
