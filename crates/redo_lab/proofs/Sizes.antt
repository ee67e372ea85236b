-- The sizes that `format` is asked for are within the limits.
use Rattle.std.proofs.Common.{refl, ℕ, ◌<◌, ◌≤◌}
use Rattle.model_base.proofs.ShapeLimits.{within_limits}
use Rattle.model_base.specs.{IsPageSize, IsWithinLimits, space_limit}
use Rattle.model_base.specs.declared.limits.TheConstants.{MAX_LOG_BLOCKS, MAX_PAGES, MIN_LOG_BLOCKS}
use Rattle.redo_lab.specs.Call.{asked_shape}

pub asked_within : (page_size pages space log_blocks : ℕ) → IsPageSize page_size → 1 ≤ pages → pages ≤ MAX_PAGES
    → space < space_limit → MIN_LOG_BLOCKS ≤ log_blocks → log_blocks ≤ MAX_LOG_BLOCKS
    → IsWithinLimits (asked_shape page_size pages space log_blocks)
asked_within page_size pages space log_blocks size some few small many blocks =
    within_limits (asked_shape page_size pages space log_blocks) size some few small many blocks refl
