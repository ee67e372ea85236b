-- The lemmas of the two directions.
use Rattle.model_base.proofs.ShapeLimits.{is_within_limits_facts, is_within_limits_true}
use Rattle.model_base.proofs.laws.limits_as_facts.Goals as goal

pub returns : goal.returns
returns c = λ shape. (is_within_limits_facts shape, is_within_limits_true shape)
