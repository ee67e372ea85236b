-- The links before those that are added.
use Rattle.std.proofs.Common.{refl}
use Rattle.redo_link.proofs.buffer.tests.the_tail_stops_at_a_hole.Goals as goal

pub new-requires : goal.new-requires
new-requires g c = (3, refl)

pub add_link-requires-clause-free : goal.add_link-requires-clause-free
add_link-requires-clause-free g c = λ place stands. absurd (stands (c.in_ok-links.ensures.empty place))
