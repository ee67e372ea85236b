use Rattle.std.proofs.Common.{length, ◌-◌, ◌≤◌}
use Rattle.redo_follow.proofs.WholeGroups.{HandsUpto}
use Rattle.redo_follow.proofs.handing.hand_on.Given as goal

abbrev pub invariant-loop-length : goal.invariant-loop-length
invariant-loop-length g l =
    HandsUpto g.R.Receiver.stands_for l.fn.at l.fn.bytes l.fn.receiver l.receiver l.taken
    × (l.taken ≤ length l.fn.bytes)

abbrev pub decreases-loop-length : goal.decreases-loop-length
decreases-loop-length g l = length l.fn.bytes - l.taken
