-- The header blocks of the log device.
use Rattle.std.proofs.Common.{Ok, Err, refl}
use Rattle.redo_lab.proofs.FirstRead.{is-unused, read-block}
use Rattle.redo_lab.proofs.prepare.is_unused.Goals as goal

pub returns-in-Ok-clause-unused : goal.returns-in-Ok-clause-unused
returns-in-Ok-clause-unused g c =
    is-unused (g.L.Sectors.seen c.read.new.self).tells c.are_blank.result c.read.new.out c.in-Ok.ensures.step.bytes c.are_blank.ensures

pub returns-in-Ok-clause-calls : goal.returns-in-Ok-clause-calls
returns-in-Ok-clause-calls g c = read-block (Ok c.are_blank.result) c.in-Ok.ensures.gives refl

pub returns-in-Err-clause-calls : goal.returns-in-Err-clause-calls
returns-in-Err-clause-calls g c = read-block (Err c.in-Err.error) c.in-Err.ensures.gives refl
