use Rattle.redo_threads.proofs.Going.{work_still, works_refl, works_trans}
use Rattle.redo_threads.proofs.Keeping.{keep_refl, keep_seated, keep_trans}
use Rattle.redo_threads.proofs.Laid.{keep_laid, work_laid}
use Rattle.redo_threads.proofs.crew.play_here.Goals as goal

pub returns-then-is_empty-clause-crew : goal.returns-then-is_empty-clause-crew
returns-then-is_empty-clause-crew g c =
    keep_refl g.F.Receiver.stands_for c.args.table.now.table_id c.args.crew.now c.requires.seated

pub loop-init : goal.loop-init
loop-init g c = record {
  crew = keep_refl g.F.Receiver.stands_for c.args.table.now.table_id c.args.crew.now c.requires.seated;
  archiver = works_refl g.F.Receiver.stands_for c.args.table.now.table_id g.A.Sectors.seen g.A.Sectors.gives
      c.args.archiver.now c.requires.archiver;
}

pub returns-in-None-either-clause-crew : goal.returns-in-None-either-clause-crew
returns-in-None-either-clause-crew g c = keep_trans g.F.Receiver.stands_for c.args.table.now.table_id c.args.crew.now c.loop.crew
    c.round-others.new.crew c.loop.invariant.crew c.round-others.ensures

pub returns-in-None-either-clause-archiver : goal.returns-in-None-either-clause-archiver
returns-in-None-either-clause-archiver g c = works_trans g.F.Receiver.stands_for c.args.table.now.table_id
    g.A.Sectors.seen g.A.Sectors.gives
    c.args.archiver.now c.loop.archiver c.archiver_round-its.new.archiver c.loop.invariant.archiver
    c.archiver_round-its.ensures

pub loop-preserved-in-Some-true : goal.loop-preserved-in-Some-true
loop-preserved-in-Some-true g c = record {
  crew = keep_trans g.F.Receiver.stands_for c.args.table.now.table_id c.args.crew.now c.loop.crew
      c.round-others.new.crew c.loop.invariant.crew c.round-others.ensures;
  archiver = works_trans g.F.Receiver.stands_for c.args.table.now.table_id g.A.Sectors.seen g.A.Sectors.gives
      c.args.archiver.now c.loop.archiver c.archiver_round-its.new.archiver c.loop.invariant.archiver
      c.archiver_round-its.ensures;
}

pub loop-preserved : goal.loop-preserved
loop-preserved g c = record {
  crew = keep_trans g.F.Receiver.stands_for c.args.table.now.table_id c.args.crew.now c.loop.crew
      c.round-others.new.crew c.loop.invariant.crew c.round-others.ensures;
  archiver = works_trans g.F.Receiver.stands_for c.args.table.now.table_id g.A.Sectors.seen g.A.Sectors.gives
      c.args.archiver.now c.loop.archiver c.archiver_round-its.new.archiver c.loop.invariant.archiver
      c.archiver_round-its.ensures;
}

pub round-others-requires-clause-seated : goal.round-others-requires-clause-seated
round-others-requires-clause-seated g c κs within =
    keep_seated g.F.Receiver.stands_for c.args.table.now.table_id c.args.crew.now c.loop.crew c.loop.invariant.crew

pub archiver_round-its-requires-clause-archiver : goal.archiver_round-its-requires-clause-archiver
archiver_round-its-requires-clause-archiver g c κs within = work_still g.F.Receiver.stands_for c.args.table.now.table_id
    g.A.Sectors.seen g.A.Sectors.gives c.args.archiver.now c.loop.archiver c.requires.archiver c.loop.invariant.archiver

pub round-others-requires-clause-laid : goal.round-others-requires-clause-laid
round-others-requires-clause-laid g c κs within =
    keep_laid g.F.Receiver.stands_for c.args.table.now.table_id c.args.layout c.args.crew.now c.loop.crew
    c.requires.seated c.requires.laid c.loop.invariant.crew

pub archiver_round-its-requires-clause-its : goal.archiver_round-its-requires-clause-its
archiver_round-its-requires-clause-its g c κs within = work_laid g.F.Receiver.stands_for c.args.table.now.table_id
    c.args.layout g.A.Sectors.seen g.A.Sectors.gives c.args.archiver.now c.loop.archiver c.requires.its
    c.loop.invariant.archiver
