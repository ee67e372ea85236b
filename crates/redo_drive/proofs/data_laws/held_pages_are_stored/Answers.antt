use Rattle.redo_drive.proofs.DataPartEnds.{held_is_stored}
use Rattle.redo_drive.proofs.data_laws.held_pages_are_stored.Goals as goal
use Rattle.redo_drive.specs.DataPartSide.{HasBegun}

pub returns : goal.returns
returns g c = λ faults shape opened kept_page first part unfinished pages wholes stable ckpt disk.
    held_is_stored g.D.Sectors.seen faults shape (HasBegun g.D.Sectors.seen opened first) kept_page unfinished part pages wholes stable ckpt disk
