use Rattle.std.proofs.Common.{[], false}
use Rattle.model_parts.specs.{IsOpened, IsUpTo}
use Rattle.model_parts.specs.Stored.{Stored}
use Rattle.model_parts.proofs.Parts.{opened-stored}
use Rattle.redo_disk.proofs.Told.{known-as}
use Rattle.redo_store.proofs.part.DataPart.new.Goals as goal

pub returns-in-Ok-clause-stores : goal.returns-in-Ok-clause-stores
returns-in-Ok-clause-stores g c top was known =
    let shape = c.args.shape.now in
    known-as (g.D.Sectors.seen c.args.dev).tells (IsOpened shape top was) (Stored shape (IsUpTo top) was [] false)
    (λ a opened. opened-stored shape top was a c.requires.limits opened) known
