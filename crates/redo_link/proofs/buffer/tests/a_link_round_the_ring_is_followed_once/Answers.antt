-- Eight is a power of two.
use Rattle.std.proofs.Common.{refl}
use Rattle.redo_link.proofs.buffer.tests.a_link_round_the_ring_is_followed_once.Goals as goal

pub new-requires : goal.new-requires
new-requires g c = (3, refl)
