-- A page has room for its trailer.
use Rattle.std.proofs.Common.{arith}
use Rattle.model_base.proofs.ShapeLimits.{whole_sectors}
use Rattle.redo_script.proofs.fit.write_misfit.Goals as goal

pub overflow_sub-shape : goal.overflow_sub-shape
overflow_sub-shape c = let size = whole_sectors c.args.shape.now c.requires.limits in omega arith
