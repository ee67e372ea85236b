-- What a user was answered for its last line.
use Rattle.std.specs.Prelude.{length, slice_index, ℕ, ◌+◌, ◌-◌, ◌<◌, ◌≡◌}
use Rattle.model_core.specs.{line_at, lsn, UserState}
use Rattle.model_core.specs.States as model
use Rattle.model_core.specs.declared.steps.UserStep.TheVariants as user_step
use Rattle.redo_drive.specs.Reserved.{HasGroups}

-- the lsn at which the last group that it has reserved ends
abbrev pub last_end : UserState → ℕ
last_end u = lsn (slice_index u.starts (length u.starts - 1) + length (line_at u.lines (length u.starts - 1)).bytes)

-- it has done all its lines, has reserved a group, and each ends at an sn
pub record HasAnswered (u : UserState) : Type 0 where
  pub done : u.step ≡ user_step.Done
  pub some_group : 0 < length u.starts
  pub groups : HasGroups (model.User u)
