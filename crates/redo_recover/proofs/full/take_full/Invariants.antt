use Rattle.std.proofs.Common.{◌≡◌, length}
use Rattle.model_log.specs.{lsn_at}
use Rattle.redo_recover.specs.Full.{AreFullOf}
use Rattle.redo_recover.proofs.full.take_full.Given as goal

-- so many are taken
abbrev pub invariant-loop : goal.invariant-loop
invariant-loop l =
    (l.next ≡ lsn_at l.lsn (length l.views.items))
    × AreFullOf l.layout l.piece l.tails (record { lsn = l.lsn; views = l.views; joined = l.joined })
