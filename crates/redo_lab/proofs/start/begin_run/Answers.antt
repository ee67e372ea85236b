use Rattle.std.proofs.Common.{Some, refl, ◌∙◌}
use Rattle.redo_lab.proofs.Begun.{archive-room, archive-sized, archive-start, begun-new, cut-well, given-same}
use Rattle.redo_lab.proofs.Begun.{given-unbegun, same-well, unbegun-comes}
use Rattle.redo_lab.proofs.Opening.{unplayed-memory}
use Rattle.redo_lab.proofs.start.begin_run.Goals as goal
use Rattle.redo_lab.specs.declared.playing.Course.TheVariants as course

-- the store isn't opened

pub returns-in-Err-clause-ready : goal.returns-in-Err-clause-ready
returns-in-Err-clause-ready g c = λ handed command running only same.
    c.in-Err.ensures.ready handed command c.args.drive.now running refl
    (c.room_on-room.ensures ∙ archive-sized g.A.Sectors.seen handed.archive c.args.drive.now c.args.arch c.args.arch c.requires.archives same)

pub returns-in-Err-clause-given_back : goal.returns-in-Err-clause-given_back
returns-in-Err-clause-given_back g c = given-same g.A.Sectors.seen c.in-Err.ran.course c.args.arch

pub returns-in-Err-clause-well : goal.returns-in-Err-clause-well
returns-in-Err-clause-well g c = same-well g.A.Sectors.gives c.in-Err.ran.course c.args.arch

pub returns-in-Err-clause-entered : goal.returns-in-Err-clause-entered
returns-in-Err-clause-entered g c = c.in-Err.ensures.entered

-- no memory for the followers

pub returns-in_default-clause-ready : goal.returns-in_default-clause-ready
returns-in_default-clause-ready g c = λ handed command running only same.
    let ready = c.in-Ok.ensures.ready handed command c.args.drive.now running refl
    (c.room_on-room.ensures ∙ archive-sized g.A.Sectors.seen handed.archive c.args.drive.now c.args.arch c.args.arch c.requires.archives same) in
    rw (c.unbegun.ensures.course, c.unbegun.ensures.log, c.unbegun.ensures.store)
    (unplayed-memory _ command c.args.drive.now c.args.stops c.args.script.now running c.laws.ensures ready.armed ready.reads)

pub returns-in_default-clause-given_back : goal.returns-in_default-clause-given_back
returns-in_default-clause-given_back g c = given-same g.A.Sectors.seen c.unbegun.result.course c.args.arch

pub returns-in_default-clause-well : goal.returns-in_default-clause-well
returns-in_default-clause-well g c = same-well g.A.Sectors.gives c.unbegun.result.course c.args.arch

pub returns-in_default-clause-entered : goal.returns-in_default-clause-entered
returns-in_default-clause-entered g c = rw (c.unbegun.ensures.log, c.unbegun.ensures.store) c.in-Ok.ensures.entered

-- what is required of the archive

pub begin_on-requires-clause-start : goal.begin_on-requires-clause-start
begin_on-requires-clause-start g c = archive-start c.in-Ok.opened c.args.script.now c.args.drive.now.log_only c.in-Ok.ensures.begins

pub begin_on-requires-clause-room : goal.begin_on-requires-clause-room
begin_on-requires-clause-room g c = archive-room g.A.Sectors.seen c.in-Ok.opened.shape c.in-Ok.opened.start c.args.script.now c.args.arch
    (rw c.room_on-room.ensures at c.in-Ok.ensures.archive_fits)

-- the run stands ready

pub returns-in-Ok-begin_on-clause-begun : goal.returns-in-Ok-begin_on-clause-begun
returns-in-Ok-begin_on-clause-begun g c = record {
  may = c.in-Ok.ensures.begins;
  new = c.in-Ok-make_followers.ensures.new;
  untold = c.in-Ok-make_followers.ensures.untold;
  room = c.in-Ok-make_followers.ensures.room;
  archive = c.in-Ok-begin_on.ensures.begun;
  new_archive = begun-new g.A.Sectors.seen c.in-Ok.opened g.A.Sectors.gives c.args.script.now c.args.arch
      c.in-Ok-begin_on.archive c.in-Ok-begin_on.ensures.begun
      (rw c.room_on-room.ensures at c.in-Ok.ensures.archive_fits);
}

pub returns-in-Ok-begin_on-clause-ready : goal.returns-in-Ok-begin_on-clause-ready
returns-in-Ok-begin_on-clause-ready g c = λ handed command running only now same.
    c.in-Ok.ensures.ready handed command c.args.drive.now running refl
    (c.room_on-room.ensures ∙ archive-sized g.A.Sectors.seen handed.archive c.args.drive.now c.args.arch now c.requires.archives same)

pub returns-in-Ok-begin_on-clause-entered : goal.returns-in-Ok-begin_on-clause-entered
returns-in-Ok-begin_on-clause-entered g c = c.in-Ok.ensures.entered

-- no archive was begun

pub returns-in-Err-begin_on-clause-ready : goal.returns-in-Err-begin_on-clause-ready
returns-in-Err-begin_on-clause-ready g c = λ handed command running only same.
    let ready = c.in-Ok.ensures.ready handed command c.args.drive.now running refl
    (c.room_on-room.ensures ∙ archive-sized g.A.Sectors.seen handed.archive c.args.drive.now c.args.arch _ c.requires.archives same) in
    rw (c.unbegun-in-Err-begin_on.ensures.course, c.unbegun-in-Err-begin_on.ensures.log, c.unbegun-in-Err-begin_on.ensures.store)
    (unbegun-comes g.L.Sectors.seen g.D.Sectors.seen g.A.Sectors.seen _ command c.args.drive.now c.args.stops c.args.script.now running c.laws.ensures
    c.in-Ok.opened ready only c.args.arch c.in-Err-begin_on.fault c.in-Err-begin_on.arch c.in-Err-begin_on.ensures.fault c.requires.archives same)

pub returns-in-Err-begin_on-clause-given_back : goal.returns-in-Err-begin_on-clause-given_back
returns-in-Err-begin_on-clause-given_back g c = rw c.unbegun-in-Err-begin_on.ensures.course
    (given-unbegun g.A.Sectors.seen c.args.arch c.in-Err-begin_on.fault c.in-Err-begin_on.arch c.in-Err-begin_on.ensures.fault)

pub returns-in-Err-begin_on-clause-well : goal.returns-in-Err-begin_on-clause-well
returns-in-Err-begin_on-clause-well g c = rw c.unbegun-in-Err-begin_on.ensures.course
    (cut-well g.A.Sectors.gives (course.Ended c.in-Err-begin_on.fault) (λ uncut. uncut) c.args.arch
    (Some c.in-Err-begin_on.arch))

pub returns-in-Err-begin_on-clause-entered : goal.returns-in-Err-begin_on-clause-entered
returns-in-Err-begin_on-clause-entered g c = rw (c.unbegun-in-Err-begin_on.ensures.log, c.unbegun-in-Err-begin_on.ensures.store) c.in-Ok.ensures.entered
