-- How many bytes the groups of each user may have together.
use Rattle.std.specs.Prelude.{Bool, false, min, true, ℕ, ◌+◌, ◌-◌, ◌/◌}
use Rattle.model_base.specs.declared.shape.Shape.{Shape}
use Rattle.model_log.specs.{round_of, run_layout, sn_of}
use Rattle.model_log.specs.declared.layout.TheConstants.{BLOCK_HEADER}
use Rattle.model_script.specs.declared.misfit.TheConstants.{MARGIN}
use Rattle.redo_live.specs.declared.quota.TheConstants.{LAST_SN}

-- Up to which sn groups may come. A log that runs alone is freed by no checkpoint: there it is one round from the start
-- on, but for a margin.
abbrev pub last_sn : Shape → (start : ℕ) → (log_only : Bool) → ℕ
last_sn shape start true = min (sn_of (start - BLOCK_HEADER + round_of (run_layout shape) - MARGIN)) LAST_SN
last_sn shape start false = LAST_SN

-- what is left up to there, by equal shares of so many actors
abbrev pub share_of : Shape → (start : ℕ) → (log_only : Bool) → (actors : ℕ) → ℕ
share_of shape start log_only actors = (last_sn shape start log_only - sn_of start) / actors
