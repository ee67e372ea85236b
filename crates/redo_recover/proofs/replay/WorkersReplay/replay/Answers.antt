use Rattle.redo_recover.proofs.replay.WorkersReplay.replay.Goals as goal

pub returns-clause-its_pages : goal.returns-clause-its_pages
returns-clause-its_pages g c = c.in_ok-pages.ensures.its_pages c.args.shape.now c.requires.its_pages
