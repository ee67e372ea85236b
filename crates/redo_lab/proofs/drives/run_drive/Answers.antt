use Rattle.std.proofs.lemmas.Result.{IfOk-weaker}
use Rattle.redo_drive.specs.{views_of}
use Rattle.redo_lab.proofs.ByDrive.{tells-threads}
use Rattle.redo_lab.proofs.drives.run_drive.Goals as goal

pub returns-then-drive-clause-tells : goal.returns-then-drive-clause-tells
returns-then-drive-clause-tells g c = λ as_many archived. IfOk-weaker c.drive_in_threads.result _ _
    (λ left told. tells-threads g.L.Sectors.seen g.L.Sectors.gives g.D.Sectors.seen g.D.Sectors.gives c.args.drive.now
    c.args.opened c.args.script.now (views_of left.1.items) left.0 c.if-drive.true told)
    c.drive_in_threads.ensures.says
