-- Where the next checkpoint may stand, and that its number doesn't go round.
use Rattle.std.specs.Prelude.{ℕ, ◌≡◌, ◌≤◌, ◌<◌, ◌%◌, ◌+◌, ◌^◌}
use Rattle.model_base.specs.declared.limits.TheConstants.{BLOCK_SIZE, LSN_LIMIT}
use Rattle.model_parts.specs.declared.marks.LogMarks.{LogMarks}

-- The next checkpoint may stand at this lsn: the start of a block, from the last one asked for up to the stable mark.
pub record MayBeNext (marks : LogMarks) (lsn : ℕ) : Type 0 where
  pub aligned : lsn % BLOCK_SIZE ≡ 0
  pub small : lsn < LSN_LIMIT
  pub from : marks.asked ≤ lsn
  pub up_to : lsn ≤ marks.stable

-- its number doesn't go round
abbrev pub HasNextNumber : LogMarks → Type 0
HasNextNumber marks = marks.number + 1 < 2 ^ 64
