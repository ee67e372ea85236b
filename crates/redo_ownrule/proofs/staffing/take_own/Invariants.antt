-- The players so far, and the writer and the flusher.
use Rattle.std.proofs.Common.{◌≡◌}
use Rattle.redo_ownrule.proofs.Players.{Found, found, none_yet}
use Rattle.redo_ownrule.proofs.staffing.take_own.Given as goal

abbrev pub invariant-loop-actor : goal.invariant-loop-actor
invariant-loop-actor g l = ◌≡◌ {A = Found g.row.R.Denot}
    (record { players = l.players.items; writer = l.writer; flusher = l.flusher }) (found none_yet l.yielded)
