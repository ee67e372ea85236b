-- The default sizes of a store of format 2 are within the limits.
use Rattle.std.proofs.Common.{refl}
use Rattle.model_base.proofs.ShapeLimits.{is_within_limits_facts}
use Rattle.model_base.specs.{default_shape, IsWithinLimits}
use Rattle.model_base.specs.declared.limits.TheConstants.{EARLY_SLOTS}

pub early_within : IsWithinLimits (record default_shape { slots = EARLY_SLOTS })
early_within = is_within_limits_facts (record default_shape { slots = EARLY_SLOTS }) refl
