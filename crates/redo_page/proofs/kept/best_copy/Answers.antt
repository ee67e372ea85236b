-- A page has room for what stands round its user bytes.
use Rattle.std.proofs.Common.{arith}
use Rattle.model_base.proofs.ShapeLimits.{whole_sectors}
use Rattle.redo_page.proofs.kept.best_copy.Goals as goal

pub copy_lsn-requires : goal.copy_lsn-requires
copy_lsn-requires c = omega (arith, (whole_sectors c.args.shape.now c.requires.limits).least)
