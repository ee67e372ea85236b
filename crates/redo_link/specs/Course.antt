-- The bounds of an advance, between its steps.
use Rattle.std.specs.Prelude.{ℕ, ◌+◌, ◌<◌, ◌^◌}
use Rattle.model_core.specs.{Advance, tail_of}
use Rattle.model_core.specs.declared.steps.AdvanceStep.{AdvanceStep}
use Rattle.model_core.specs.declared.steps.AdvanceStep.TheVariants as advance_step

-- its tail and its place are lsns
pub record IsAdvance (v : Advance) : Type 0 where
  pub tail : v.tail < 2 ^ 61
  pub place : v.place < 2 ^ 61

-- the answer to its Op leads to an lsn
abbrev pub FindsLsn : Advance → ℕ → AdvanceStep → Type 0
FindsLsn v found advance_step.LoadTail = tail_of found < 2 ^ 61
FindsLsn v found advance_step.LoadLink = v.place + found < 2 ^ 61
FindsLsn v found _ = Unit {0}

-- the link that it is about to clear leads to an lsn
abbrev pub LeadsToLsn : Advance → AdvanceStep → Type 0
LeadsToLsn v advance_step.ClearLink = v.place + v.link < 2 ^ 61
LeadsToLsn v _ = Unit {0}
