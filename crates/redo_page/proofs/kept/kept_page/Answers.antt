-- A page has room for what stands round its user bytes.
use Rattle.std.proofs.Common.{arith}
use Rattle.model_base.proofs.ShapeLimits.{whole_sectors}
use Rattle.redo_page.proofs.kept.kept_page.Goals as goal

pub place_lsn-requires : goal.place_lsn-requires
place_lsn-requires c = omega (arith, (whole_sectors c.args.shape.now c.requires.limits).least)

pub user_bytes-requires : goal.user_bytes-requires
user_bytes-requires c = omega (arith, (whole_sectors c.args.shape.now c.requires.limits).least)
