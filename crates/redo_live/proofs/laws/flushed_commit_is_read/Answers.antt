use Rattle.std.proofs.Common.{refl}
use Rattle.redo_live.proofs.KeptCommit as kept
use Rattle.redo_live.proofs.laws.flushed_commit_is_read.Goals as goal

pub returns : goal.returns
returns g c store users left old new last i end items is_open committed on at leaves opened reading read =
    kept.is_read g.L.Sectors.seen g.L.Sectors.gives g.D.Sectors.seen g.D.Sectors.gives store users left old new
    last i 1 end items is_open committed on at leaves refl opened reading read
