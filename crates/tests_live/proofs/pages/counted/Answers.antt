use Rattle.std.proofs.Common.{arith}
use Rattle.model_base.proofs.ShapeLimits.{whole_sectors}
use Rattle.tests_live.proofs.pages.counted.Goals as goal

pub user_bytes-requires : goal.user_bytes-requires
user_bytes-requires g c = omega (arith, (whole_sectors c.shape-shape.result c.shape-shape.ensures.limits).least)
