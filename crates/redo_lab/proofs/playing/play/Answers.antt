use Rattle.std.proofs.Common.{◌∙◌}
use Rattle.redo_lab.proofs.Begun.{begun-so}
use Rattle.redo_lab.proofs.Closed.{after-comes, after-entered, after-finish, after-given, after-started, after-well}
use Rattle.redo_lab.proofs.playing.play.Goals as goal

-- it isn't begun

pub returns-in-Err-clause-comes_to : goal.returns-in-Err-clause-comes_to
returns-in-Err-clause-comes_to g c = λ handed command running only same.
    c.in-Err.ensures.ready handed command running only same

-- what it leaves

pub close_run-requires-clause-finish : goal.close_run-requires-clause-finish
close_run-requires-clause-finish g c = after-finish g.L.Sectors.seen g.L.Sectors.gives g.D.Sectors.seen g.D.Sectors.gives g.A.Sectors.seen
    g.A.Sectors.gives c.args.drive.now c.args.script.now c.args.arch c.in-Ok.begun c.in-Ok.ensures.begun
    c.run_drive-after.result c.run_drive-after.ensures.owed c.run_drive-after.ensures.archived

pub close_run-requires-clause-started : goal.close_run-requires-clause-started
close_run-requires-clause-started g c = after-started g.L.Sectors.seen g.L.Sectors.gives g.D.Sectors.seen g.D.Sectors.gives g.A.Sectors.seen
    g.A.Sectors.gives c.args.drive.now c.args.script.now c.args.arch c.in-Ok.begun c.in-Ok.ensures.begun
    c.run_drive-after.result c.run_drive-after.ensures.owed c.run_drive-after.ensures.archived

pub returns-clause-given_back : goal.returns-clause-given_back
returns-clause-given_back g c = after-given g.L.Sectors.seen g.L.Sectors.gives g.D.Sectors.seen g.D.Sectors.gives g.A.Sectors.seen
    g.A.Sectors.gives c.args.drive.now c.args.script.now c.args.arch c.in-Ok.begun c.in-Ok.ensures.begun
    c.archive_reads.ensures c.close_run.result.0 c.close_run.result.1
    c.run_drive-after.result c.run_drive-after.ensures.owed c.run_drive-after.ensures.archived c.run_drive-after.ensures.err c.close_run.ensures.closed c.close_run.ensures.unrun

pub returns-clause-well : goal.returns-clause-well
returns-clause-well g c = after-well g.L.Sectors.seen g.L.Sectors.gives g.D.Sectors.seen g.D.Sectors.gives
    g.A.Sectors.seen
    g.A.Sectors.gives c.args.drive.now c.args.script.now c.args.arch c.in-Ok.begun c.in-Ok.ensures.begun
    c.archive_reads.ensures
    c.close_run.result.0 c.close_run.result.1 c.run_drive-after.result c.run_drive-after.ensures.owed
    c.run_drive-after.ensures.archived c.run_drive-after.ensures.err c.close_run.ensures.closed
    c.close_run.ensures.unrun

pub returns-clause-entered : goal.returns-clause-entered
returns-clause-entered g c = after-entered g.L.Sectors.seen g.L.Sectors.gives g.D.Sectors.seen g.D.Sectors.gives g.A.Sectors.seen
    g.A.Sectors.gives c.args.drive.now c.args.script.now c.args.arch c.in-Ok.begun c.in-Ok.ensures.begun
    c.archive_reads.ensures c.close_run.result.0 c.close_run.result.1
    c.run_drive-after.result c.run_drive-after.ensures.owed c.run_drive-after.ensures.archived c.run_drive-after.ensures.err c.close_run.ensures.closed c.close_run.ensures.unrun
    c.args.log c.args.store c.in-Ok.ensures.entered

pub returns-clause-comes_to : goal.returns-clause-comes_to
returns-clause-comes_to g c = λ handed command running only same.
    let has = c.in-Ok.ensures.begun in
    let drive = c.args.drive.now in
    let script = c.args.script.now in
    let given = c.in-Ok.begun.opened in
    after-comes g.L.Sectors.seen g.L.Sectors.gives g.D.Sectors.seen g.D.Sectors.gives g.A.Sectors.seen
    g.A.Sectors.gives drive script c.args.arch c.in-Ok.begun has c.archive_reads.ensures c.close_run.result.0
    c.close_run.result.1
    handed c.args.log c.args.store command c.args.stops running c.laws.ensures c.requires.archives
    c.run_drive-after.result c.run_drive-after.ensures.owed c.run_drive-after.ensures.archived c.run_drive-after.ensures.err c.close_run.ensures.closed c.close_run.ensures.unrun
    (c.in-Ok.ensures.ready handed command running only)
    (c.run_drive-after.ensures.tells has.untold.count_is
    (begun-so g.A.Sectors.seen given g.A.Sectors.gives c.args.arch c.in-Ok.begun.archive has.archive
    ∙ c.requires.archives))
    c.run_drive-after.ensures.reads
    c.run_drive-after.ensures.followed
    same
