-- A page has room for what stands round its user bytes.
use Rattle.std.proofs.Common.{arith}
use Rattle.model_base.proofs.ShapeLimits.{whole_sectors}
use Rattle.redo_open.proofs.batch.Batch.new.Goals as goal

pub user_bytes-requires : goal.user_bytes-requires
user_bytes-requires c = omega (arith, (whole_sectors c.args.shape.now c.requires.limits).least)
