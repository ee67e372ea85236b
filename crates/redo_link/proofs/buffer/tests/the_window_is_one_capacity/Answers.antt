-- The capacity is a power of two.
use Rattle.std.proofs.Common.{refl}
use Rattle.redo_link.proofs.buffer.tests.the_window_is_one_capacity.Goals as goal

pub new-requires : goal.new-requires
new-requires g c = (15, refl)
