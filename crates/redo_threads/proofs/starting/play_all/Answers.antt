use Rattle.redo_threads.proofs.Going.{work_still, works_trans}
use Rattle.redo_threads.proofs.Keeping.{keep_seated, keep_trans}
use Rattle.redo_threads.proofs.Laid.{keep_laid, work_laid}
use Rattle.redo_threads.proofs.starting.play_all.Goals as goal

pub to_ends-requires-clause-seated : goal.to_ends-requires-clause-seated
to_ends-requires-clause-seated g c κs within =
    keep_seated g.F.Receiver.stands_for c.args.table.now.table_id c.args.crew c.play_at_once-played.result
    c.play_at_once-played.ensures.crew

pub archiver_to_end-requires-clause-archiver : goal.archiver_to_end-requires-clause-archiver
archiver_to_end-requires-clause-archiver g c κs within = work_still g.F.Receiver.stands_for c.args.table.now.table_id
    g.A.Sectors.seen g.A.Sectors.gives c.args.archiver
    c.play_at_once-played.new.archiver c.requires.archiver c.play_at_once-played.ensures.archiver

pub returns-clause-goes_on : goal.returns-clause-goes_on
returns-clause-goes_on g c =
    keep_trans g.F.Receiver.stands_for c.args.table.now.table_id c.args.crew c.play_at_once-played.result c.to_ends.new.crew
    c.play_at_once-played.ensures.crew c.to_ends.ensures.goes_on

pub returns-clause-archiver : goal.returns-clause-archiver
returns-clause-archiver g c = works_trans g.F.Receiver.stands_for c.args.table.now.table_id g.A.Sectors.seen
    g.A.Sectors.gives c.args.archiver c.play_at_once-played.new.archiver
    c.archiver_to_end.new.archiver c.play_at_once-played.ensures.archiver c.archiver_to_end.ensures.goes_on

pub to_ends-requires-clause-laid : goal.to_ends-requires-clause-laid
to_ends-requires-clause-laid g c κs within =
    keep_laid g.F.Receiver.stands_for c.args.table.now.table_id c.args.layout c.args.crew c.play_at_once-played.result
    c.requires.seated c.requires.laid c.play_at_once-played.ensures.crew

pub archiver_to_end-requires-clause-its : goal.archiver_to_end-requires-clause-its
archiver_to_end-requires-clause-its g c κs within = work_laid g.F.Receiver.stands_for c.args.table.now.table_id
    c.args.layout g.A.Sectors.seen g.A.Sectors.gives c.args.archiver c.play_at_once-played.new.archiver c.requires.its
    c.play_at_once-played.ensures.archiver
